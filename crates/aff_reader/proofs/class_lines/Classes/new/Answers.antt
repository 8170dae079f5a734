-- Of no lines nothing is known.
use Rattle.aff_reader.proofs.ClassLemmas.{knows-nothing}
use Rattle.aff_reader.proofs.class_lines.Classes.new.Goals as goal

pub returns : goal.returns
returns c =
    λ kind. knows-nothing kind c.new.result c.new-2.result c.new.ensures.empty c.new-2.ensures.empty
