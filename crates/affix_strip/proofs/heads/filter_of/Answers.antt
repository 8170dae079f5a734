-- The heads are those that all suffixes leave.
use Rattle.std.proofs.Common.{rules}
use Rattle.affix_strip.proofs.heads.filter_of.Goals as goal

pub returns : goal.returns
returns c = record {
  classes = c.in_ok-classes.classes;
  has = search rules;
  longest = c.longest_strip-longest.result;
  strips = search rules;
  most = c.in-Some.most;
  cuts = search rules;
  are = search rules;
}
