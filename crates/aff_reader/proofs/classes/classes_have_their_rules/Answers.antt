-- The law of a class's rules, and of how many they are.
use Rattle.aff_reader.proofs.CountLemmas.{class-counted}
use Rattle.aff_reader.proofs.MemberLemmas.{class-rules}
use Rattle.aff_reader.proofs.classes.classes_have_their_rules.Goals as goal

pub returns-clause-members : goal.returns-clause-members
returns-clause-members c = class-rules

pub returns-clause-count : goal.returns-clause-count
returns-clause-count c = class-counted
