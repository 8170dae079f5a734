-- Lines that are answered one behind another.
use Rattle.std.proofs.Common.{◌≡◌, ◌∙◌, ℕ, ◌+◌, Bool, List, [], ◌∷◌, ◌++◌, refl, sym, ap, subst}
use Rattle.std.proofs.Common.{append-nil}
use Rattle.std.proofs.Common.{append_assoc}
use Rattle.spell_types.specs.declared.Lexicon.{Lexicon}
use Rattle.pipe_mode.specs.declared.PipeReply.{PipeReply}
use Rattle.pipe_mode.specs.Answers.{pipe_answer_of}
use Rattle.pipe_mode.specs.Pipes.{HasAnsweredLines, PipeSeen, answers_to, pipe_behind, next}
use Rattle.pipe_mode.specs.Pipes.{reply_to}

behind-more : (pipe : PipeSeen) (lines : List (List ℕ)) (line : List ℕ)
    → pipe_behind pipe (lines ++ line ∷ []) ≡ next (pipe_behind pipe lines) line
behind-more pipe [] line = refl
behind-more pipe (first ∷ lines) line = behind-more (next pipe first) lines line

answers-more : (pipe : PipeSeen) (lines : List (List ℕ)) (line : List ℕ)
    → answers_to pipe (lines ++ line ∷ [])
    ≡ answers_to pipe lines ++ (reply_to (pipe_behind pipe lines) line).text
answers-more pipe [] line = append-nil (reply_to pipe line).text
answers-more pipe (first ∷ lines) line =
    ap (λ rest. (reply_to pipe first).text ++ rest) (answers-more (next pipe first) lines line)
    ∙ sym (append_assoc (reply_to pipe first).text (answers_to (next pipe first) lines)
    (reply_to (pipe_behind (next pipe first) lines) line).text)

-- one line more has been answered
pub answered-more : {first here : PipeSeen} {lines : List (List ℕ)} {said : List ℕ} (line : List ℕ)
    → HasAnsweredLines first here lines said
    → HasAnsweredLines first (next here line) (lines ++ line ∷ []) (said ++ (reply_to here line).text)
answered-more {first} {here} {lines} {said} line is = record {
  said_is = ap (λ said. said ++ (reply_to here line).text) is.said_is
      ∙ ap (λ here. answers_to first lines ++ (reply_to here line).text) is.now_is
      ∙ sym (answers-more first lines line);
  now_is = ap (λ here. next here line) is.now_is ∙ sym (behind-more first lines line);
}

-- so has the reply that was given to it
pub answered-next : {first : PipeSeen} {lines : List (List ℕ)} {said : List ℕ} (lexicon : Lexicon)
    (terse : Bool) (number : ℕ) (line : List ℕ) (reply : PipeReply)
    → reply ≡ pipe_answer_of lexicon terse number line
    → HasAnsweredLines first (record { lexicon = lexicon; terse = terse; number = number }) lines said
    → HasAnsweredLines first (record { lexicon = lexicon; terse = reply.terse; number = number + 1 })
    (lines ++ line ∷ []) (said ++ reply.text)
answered-next {first} {lines} {said} lexicon terse number line reply is led =
    subst (λ reply. HasAnsweredLines first
    (record { lexicon = lexicon; terse = reply.terse; number = number + 1 }) (lines ++ line ∷ [])
    (said ++ reply.text))
    (sym is) (answered-more line led)

-- nothing more has been answered
pub answered-idle : {first here : PipeSeen} {lines : List (List ℕ)} {said : List ℕ}
    → HasAnsweredLines first here lines said
    → HasAnsweredLines first here (lines ++ []) (said ++ [])
answered-idle {first} {here} {lines} {said} is =
    subst (λ lines. HasAnsweredLines first here lines (said ++ [])) (sym (append-nil lines))
    (subst (λ said. HasAnsweredLines first here lines said) (sym (append-nil said)) is)
