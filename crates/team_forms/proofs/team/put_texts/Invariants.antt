-- The texts so far were put.
use Rattle.std.proofs.Common.{◌≤◌, map, take}
use Rattle.std.specs.List.{flat_map}
use Rattle.std.specs.String.{string_bytes}
use Rattle.outside.specs.Sink.{Appends}
use Rattle.team_forms.proofs.team.put_texts.Given as goal

abbrev pub invariant-loop-text : goal.invariant-loop-text
invariant-loop-text g l = record {
  put : Appends (g.K.Sink.written l.initial.out) (g.K.Sink.written l.out)
      (flat_map (λ one. one) (map string_bytes (take l.text-index l.texts)));
  count : g.K.Sink.faults l.initial.out ≤ g.K.Sink.faults l.out;
}
