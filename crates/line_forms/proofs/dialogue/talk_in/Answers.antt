-- The console began so, and its eye stands behind the workers'.
use Rattle.std.proofs.Common.{◌∙◌, ◌++◌, ◌∷◌, [], ap}
use Rattle.line_forms.proofs.dialogue.talk_in.Goals as goal

pub returns-clause-behind : goal.returns-clause-behind
returns-clause-behind g c =
    let made = c.new-console.ensures in
    let talked = c.talk_beside-eyes.ensures in
    let left = c.talk_beside-eyes.new.responder in
    let others = c.talk_beside-eyes.result.items in record {
      now = record { eye = left.eye; dictionary = g.O.Dictionary.seen left.dictionary };
      talked = rw c.into_eye-eye.ensures.stopped
          (rw (made.going, made.eye, made.dictionary) at talked.over);
      others = others;
      worked = talked.worked;
      eyes_are = c.in-Ok.ensures.items ∙ ap (λ eye. others ++ eye ∷ []) c.into_eye-eye.ensures.eye;
    }
