-- The pairs so far were loaded.
use Rattle.std.proofs.Common.{◌≡◌, ◌≤◌, take}
use Rattle.team_forms.specs.TeamLoads.{AreLoaded}
use Rattle.team_forms.proofs.team.load_pairs.Given as goal

abbrev pub invariant-loop-pair : goal.invariant-loop-pair
invariant-loop-pair g l = record {
  same : g.F.Files.told l.files ≡ g.F.Files.told l.initial.files;
  count : g.F.Files.faults l.initial.files ≤ g.F.Files.faults l.files;
  loaded : AreLoaded (g.F.Files.told l.initial.files) (take l.pair-index l.pairs) l.loaded.items;
}
