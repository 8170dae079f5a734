-- The lines of a session, answered one after another.
use Rattle.std.proofs.Common.{◌≡◌, ◌∙◌, ◌<◌, refl, sym, ap, subst, ℕ, zero, suc, ◌+◌, take, drop}
use Rattle.std.proofs.Common.{get_or, length, arith, Bool, true, false, List, [], ◌∷◌, ◌++◌, cond}
use Rattle.std.proofs.Common.{map, Option, None, Some, append_assoc, append-nil, All}
use Rattle.std.specs.Borrow.{Bor}
use Rattle.std.specs.List.{cons_option}
use Rattle.std.proofs.lemmas.List.{length-map, get_or-map}
use Rattle.input_lines.specs.Answers.{HasNoBreak}
use Rattle.team_forms.specs.Pairs.{LoadsHeld}
use Rattle.std.specs.Option.{option_map}
use Rattle.std.proofs.lemmas.Grind.{flat_map-append}
use Rattle.mark_types.specs.spell_types.declared.Lexicon.{Lexicon}
use Rattle.board_share.specs.edit_core.Seen.{Seen}
use Rattle.board_share.specs.Eyes.{EyeSeen}
use Rattle.console_lang.specs.Replies.{reply_text}
use Rattle.console_lang.specs.declared.command.Command.{Command}
use Rattle.console_lang.specs.declared.reply.Reply.{Reply}
use Rattle.input_lines.specs.declared.responder.Flow.TheVariants.{On, Quit}
use Rattle.console_board.specs.Starts.{asked-nothing}
use Rattle.console_board.specs.Transcripts.{commands_asked_by, asked_for, lines_before_quit}
use Rattle.console_board.specs.Transcripts.{is_quit, line_says}
use Rattle.console_board.specs.Transcripts.{written_of}
use Rattle.team_history.specs.Eyes.{HasHeard, IsSaidTo}
use Rattle.team_history.specs.ToldBy.{Session, session_asks, without_own}
use Rattle.team_forms.specs.Sessions.{AnswersAll, AnswersSessionLine, IsSessionAnswered, IsOf}
use Rattle.team_forms.specs.Sessions.{line_asks}
use Rattle.team_forms.specs.declared.pairs.LoadedPair.{LoadedPair}

-- ---- what lines ask for
pub asks-none : session_asks [] ≡ []
asks-none = ap (map without_own) asked-nothing

asks-until : (line : List ℕ) (rest : List (List ℕ)) (quits : Bool) → is_quit line ≡ quits
    → lines_before_quit (line ∷ rest) ≡ cond quits [] (line ∷ lines_before_quit rest)
asks-until line rest true is = rw is refl
asks-until line rest false is = rw is (ap (λ n. take n (line ∷ rest)) (next _))
  where
    next : (n : ℕ) → 1 + n ≡ suc n
    next n = omega arith

asks-quit : (line : List ℕ) (rest : List (List ℕ)) → is_quit line ≡ true
    → session_asks (line ∷ rest) ≡ []
asks-quit line rest is =
    ap (λ lines. map without_own (commands_asked_by lines)) (asks-until line rest true is) ∙ asks-none

first-asked : (line : List ℕ) (rest : List (List ℕ))
    → commands_asked_by (line ∷ rest) ≡ cons_option (asked_for (line_says line)) (commands_asked_by rest)
unfolding commands_asked_by
first-asked line rest = refl

map-cons : {X Y : Type 0} (f : X → Y) (x : Option X) (xs : List X)
    → map f (cons_option x xs) ≡ cons_option (option_map f x) (map f xs)
map-cons f None xs = refl
map-cons f (Some x) xs = refl

asks-on : (line : List ℕ) (rest : List (List ℕ)) → is_quit line ≡ false
    → session_asks (line ∷ rest) ≡ cons_option (line_asks line) (session_asks rest)
asks-on line rest is =
    ap (λ lines. map without_own (commands_asked_by lines)) (asks-until line rest false is)
    ∙ ap (map without_own) (first-asked line (lines_before_quit rest))
    ∙ map-cons without_own (asked_for (line_says line)) (commands_asked_by (lines_before_quit rest))

-- ---- one line after another

-- of these lines the rest is still to be answered
pub record IsMidway (session : Session) (opening : Seen) (lines rest : List (List ℕ))
    (text text_now : List ℕ) (eye : EyeSeen) : Type 0 where
  pub commands : List (Option Command)
  pub replies : List Reply
  pub heard : HasHeard session opening commands replies eye
  pub asks : session_asks lines ≡ commands ++ session_asks rest
  pub text_is : text_now ≡ text ++ written_of replies

-- so it is for each session that may be meant
abbrev pub AreMidway : {J : Type 0} → (J → Lexicon) → List (LoadedPair J) → ℕ
    → List (List ℕ) → List (List ℕ) → EyeSeen → EyeSeen → List ℕ → List ℕ → Type 0
AreMidway lexicon_of pairs number lines rest old new text text_now =
    (session : Session) (opening : Seen) → IsOf lexicon_of pairs number session
    → HasHeard session opening [] [] old
    → IsMidway session opening lines rest text text_now new

abbrev pub OneMore : Type 0
OneMore = (session : Session) (opening : Seen) (commands : List (Option Command))
    (replies : List Reply) (old new : EyeSeen) (asked : Option Command) (reply : Reply)
    → HasHeard session opening commands replies old → IsSaidTo session old asked new reply
    → HasHeard session opening (commands ++ asked ∷ []) (replies ++ reply ∷ []) new

module _ {J : Type 0} (lexicon_of : J → Lexicon) (pairs : List (LoadedPair J)) (number : ℕ)
    (lines : List (List ℕ)) (old : EyeSeen) (text : List ℕ) where
  pub none-yet : AreMidway lexicon_of pairs number lines lines old old text text
  none-yet session opening of heard = record {
    commands = [];
    replies = [];
    heard = heard;
    asks = refl;
    text_is = sym (append-nil text);
  }

  on-by : OneMore → (here new : EyeSeen) (text_here text_now : List ℕ) (line : List ℕ)
      (rest : List (List ℕ)) (asks : Option (Option Command))
      → session_asks (line ∷ rest) ≡ cons_option asks (session_asks rest)
      → AreMidway lexicon_of pairs number lines (line ∷ rest) old here text text_here
      → IsSessionAnswered lexicon_of pairs number asks here new text_here text_now
      → AreMidway lexicon_of pairs number lines rest old new text text_now
  on-by one_more here new text_here text_now line rest None says so_far answered session opening of
      heard =
      let led = so_far session opening of heard in record {
        commands = led.commands;
        replies = led.replies;
        heard = subst (HasHeard session opening led.commands led.replies) (sym answered.0)
            led.heard;
        asks = led.asks ∙ ap (λ more. led.commands ++ more) says;
        text_is = answered.1 ∙ led.text_is;
      }
  on-by one_more here new text_here text_now line rest (Some asked) says so_far answered session
      opening of heard =
      let led = so_far session opening of heard in record {
        commands = led.commands ++ asked ∷ [];
        replies = led.replies ++ answered.reply ∷ [];
        heard = one_more session opening led.commands led.replies here new asked answered.reply
            led.heard (answered.said session of);
        asks = led.asks ∙ ap (λ more. led.commands ++ more) says
            ∙ sym (append_assoc led.commands (asked ∷ []) (session_asks rest));
        text_is = answered.text_is
            ∙ ap (λ front. front ++ written_of (answered.reply ∷ [])) led.text_is
            ∙ append_assoc text (written_of led.replies) (written_of (answered.reply ∷ []))
            ∙ ap (λ all. text ++ all)
            (sym (flat_map-append reply_text led.replies (answered.reply ∷ [])));
      }

  pub goes-on : OneMore → (here new : EyeSeen) (text_here text_now : List ℕ) (line : List ℕ)
      (rest : List (List ℕ))
      → AreMidway lexicon_of pairs number lines (line ∷ rest) old here text text_here
      → AnswersSessionLine lexicon_of pairs number line here new text_here text_now On
      → AreMidway lexicon_of pairs number lines rest old new text text_now
  goes-on one_more here new text_here text_now line rest so_far answered =
      on-by one_more here new text_here text_now line rest (line_asks line)
      (asks-on line rest answered.0) so_far answered.1

  -- nothing more is asked for
  ended : (here : EyeSeen) (text_here : List ℕ) (rest : List (List ℕ)) → session_asks rest ≡ []
      → AreMidway lexicon_of pairs number lines rest old here text text_here
      → AnswersAll lexicon_of pairs number lines old here text text_here
  ended here text_here rest none so_far session opening of heard =
      let led = so_far session opening of heard in record {
        replies = led.replies;
        heard = subst (λ (commands : List (Option Command)). HasHeard session opening commands
            led.replies here)
            (sym (led.asks ∙ ap (λ more. led.commands ++ more) none ∙ append-nil led.commands))
            led.heard;
        text_is = led.text_is;
      }

  pub all-answered : (here : EyeSeen) (text_here : List ℕ) (rest : List (List ℕ)) → rest ≡ []
      → AreMidway lexicon_of pairs number lines rest old here text text_here
      → AnswersAll lexicon_of pairs number lines old here text text_here
  all-answered here text_here rest none so_far =
      ended here text_here rest (ap session_asks none ∙ asks-none) so_far

  pub quit-answered : (here new : EyeSeen) (text_here text_now : List ℕ) (line : List ℕ)
      (rest : List (List ℕ))
      → AreMidway lexicon_of pairs number lines (line ∷ rest) old here text text_here
      → AnswersSessionLine lexicon_of pairs number line here new text_here text_now Quit
      → AnswersAll lexicon_of pairs number lines old new text text_now
  quit-answered here new text_here text_now line rest so_far answered =
      subst (λ (eye : EyeSeen). AnswersAll lexicon_of pairs number lines old eye text text_now)
      (sym answered.1.0)
      (subst (λ now. AnswersAll lexicon_of pairs number lines old here text now) (sym answered.1.1)
      (ended here text_here (line ∷ rest) (asks-quit line rest answered.0) so_far))

-- the lines ahead begin with the one that is answered
pub next-line : {X : Type 0} (f : X → List ℕ) (xs : List X) (k : ℕ) (d : X) → k < length xs
    → map f (drop k xs) ≡ f (get_or xs k d) ∷ map f (drop (k + 1) xs)
next-line f [] k d below = absurd (omega (arith, below))
next-line f (first ∷ xs) zero d below = refl
next-line f (first ∷ xs) (suc k) d below =
    next-line f xs k d (omega (arith, below))
    ∙ ap (λ n. f (get_or xs k d) ∷ map f (drop n (first ∷ xs))) (on k)
  where
    on : (n : ℕ) → suc (n + 1) ≡ suc n + 1
    on n = omega arith

-- what holds of all lines holds of each that is lent
each-lent : (P : List ℕ → Type 0) (lines : List (Bor (List ℕ)))
    → All P (map (λ (line : Bor (List ℕ)). line.now) lines)
    → All (λ (line : Bor (List ℕ)). P line.now) lines
each-lent P lines all = λ k d below.
    subst P (get_or-map (λ (line : Bor (List ℕ)). line.now) lines k d d.now below)
    (all k d.now (subst (λ n. k < n) (sym (length-map lines (λ (line : Bor (List ℕ)). line.now)))
    below))

pub each-whole : (lines : List (Bor (List ℕ)))
    → All HasNoBreak (map (λ (line : Bor (List ℕ)). line.now) lines)
    → All (λ (line : Bor (List ℕ)). HasNoBreak line.now) lines
each-whole lines all = each-lent HasNoBreak lines all

pub each-held : {J : Type 0} (pairs : List (LoadedPair J)) (lines : List (Bor (List ℕ)))
    → All (LoadsHeld pairs) (map (λ (line : Bor (List ℕ)). line.now) lines)
    → All (λ (line : Bor (List ℕ)). LoadsHeld pairs line.now) lines
each-held pairs lines all = each-lent (LoadsHeld pairs) lines all
