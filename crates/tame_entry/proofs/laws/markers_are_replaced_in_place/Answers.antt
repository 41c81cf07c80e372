use Rattle.tame_entry.proofs.MarkerLemmas.{all_text, crate_in, folder, lowerprefix_in, other_in, prefix_in, template, version_in}
use Rattle.tame_entry.proofs.laws.markers_are_replaced_in_place.Goals as goal

pub returns-clause-template : goal.returns-clause-template
returns-clause-template c name version dl brace = template name version dl brace

pub returns-clause-folder : goal.returns-clause-folder
returns-clause-folder c name version dl whole other = folder name version dl whole other

pub returns-clause-text : goal.returns-clause-text
returns-clause-text c name version text whole = all_text name version text whole

pub returns-clause-crate_name : goal.returns-clause-crate_name
returns-clause-crate_name c name version before behind whole = crate_in name version before behind whole

pub returns-clause-version : goal.returns-clause-version
returns-clause-version c name version before behind whole = version_in name version before behind whole

pub returns-clause-folders : goal.returns-clause-folders
returns-clause-folders c name version before behind whole = prefix_in name version before behind whole

pub returns-clause-lower : goal.returns-clause-lower
returns-clause-lower c name version before behind whole = lowerprefix_in name version before behind whole

pub returns-clause-other : goal.returns-clause-other
returns-clause-other c name version before behind whole none = other_in name version before behind whole none
