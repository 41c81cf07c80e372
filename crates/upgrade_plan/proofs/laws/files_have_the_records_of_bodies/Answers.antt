use Rattle.upgrade_plan.proofs.Bodies.{good_records, of_entry}
use Rattle.upgrade_plan.proofs.laws.files_have_the_records_of_bodies.Goals as goal

pub returns-clause-stored : goal.returns-clause-stored
returns-clause-stored c index r body url_whole formed text_whole whole = of_entry index r body url_whole formed text_whole whole

pub returns-clause-confirmed : goal.returns-clause-confirmed
returns-clause-confirmed c m index p body file r url_whole good names held = good_records m index p body file r url_whole good names held
