use Rattle.std.specs.Prelude.{[], ◌∷◌, ◌++◌, codes, option_map}
use Rattle.audit_sarif.specs.SarifObjects.{level_object, member_of, message_object, properties_object}
use Rattle.report_parts.proofs.Joining.{members_behind}
use Rattle.report_parts.proofs.Writing.{behind}
use Rattle.audit_sarif.proofs.sarif_rule_objects.write_rule.Goals as goal

pub returns : goal.returns
returns c =
    behind (behind (behind (behind (members_behind
    (member_of (codes "fullDescription") (option_map message_object c.args.rule.now.full_description))
    ((codes "defaultConfiguration", level_object c.args.rule.now.level) ∷
    (member_of (codes "help") (option_map message_object c.args.rule.now.help)
    ++ ((codes "properties", properties_object c.args.rule.now) ∷ [])))
    (behind (behind (members_behind
    (member_of (codes "help") (option_map message_object c.args.rule.now.help))
    ((codes "properties", properties_object c.args.rule.now) ∷ [])
    (behind (behind c.in_ok-close_object.ensures
    c.in_ok-write_properties.ensures)
    c.in_ok-write_name-2.ensures)
    c.in_ok-write_stated_message-2.ensures)
    c.in_ok-write_configuration.ensures)
    c.in_ok-write_name.ensures)
    c.in_ok-write_stated_message.ensures)
    c.in_ok-write_message_member.ensures)
    c.in_ok-write_text-2.ensures)
    c.in_ok-write_text.ensures)
    c.in_ok-open_object.ensures
