-- The derivations of a text are those that have it as their form.
use Rattle.std.proofs.Common.{Result, Ok, Err, IfOk, sym, subst}
use Rattle.compound_words.specs.Pieces.{AreParts}
use Rattle.compound_words.specs.Rests.{asked_by}
use Rattle.compound_words.proofs.PieceLemmas.{parts-are}
use Rattle.compound_words.proofs.pieces.parts_of.Goals as goal

-- what follows for an answer
if_ok : {X E : Type 0} {P Q : X → Type 0} (result : Result X E) → IfOk result P
    → ((x : X) → P x → Q x) → IfOk result Q
if_ok (Ok x) holds so = so x holds
if_ok (Err why) holds so = tt

pub returns : goal.returns
returns c =
    let a = asked_by c.args.search.now in
    let piece = c.args.piece.now in
    if_ok c.find_parts.result c.find_parts.ensures (λ found is.
    subst (AreParts a piece.start.now.before.now piece.text.now piece.following.now piece.rests.now)
    (sym is)
    (parts-are a piece.start.now.before.now piece.start.now.fronts.items piece.text.now
    piece.following.now piece.rests.now c.requires
    (c.derivations_are.ensures.members c.args.search.now.stems.now)))
