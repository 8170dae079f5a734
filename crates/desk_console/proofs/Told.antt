-- Where lines have led that one more follows.
use Rattle.std.proofs.Common.{◌≡◌, ◌∙◌, refl, sym, ap, subst, ℕ, ◌+◌, ◌-◌, ◌≤◌}
use Rattle.std.proofs.Common.{false, cond, List, [], ◌∷◌, ◌++◌, append-nil, Option, Some, None}
use Rattle.std.proofs.Common.{Result, Ok, arith}
use Rattle.std.specs.List.{cons_option}
use Rattle.std.proofs.lemmas.Grind.{flat_map-append}
use Rattle.std.proofs.lemmas.List.Elements.{filter_map-append}
use Rattle.std.proofs.lemmas.List.Sums.{sum_by-append}
use Rattle.outside.specs.Files.{Folder}
use Rattle.board_share.specs.Eyes.{EyeSeen, events_in}
use Rattle.console_lang.specs.Replies.{reply_text}
use Rattle.console_lang.specs.declared.command.Command.{Command}
use Rattle.console_lang.specs.declared.command.Command.TheVariants as command
use Rattle.console_lang.specs.declared.command.CommandFault.{CommandFault}
use Rattle.console_lang.specs.declared.reply.Reply.{Reply}
use Rattle.console_lang.specs.declared.reply.Reply.TheVariants.{NoCommand}
use Rattle.console_board.specs.Transcripts.{commands_asked_by, asked_for, failures_in, is_no_files}
use Rattle.console_board.specs.Transcripts.{line_says, quits, written_of}
use Rattle.console_history.specs.Told.{GoesOneOn, IsToldOne, Seat, Told}
use Rattle.desk_console.specs.Consoles.{HasTold, IsStopped, lines_left_for_eye}
use Rattle.desk_console.specs.Consoles.{most_asked}
use Rattle.desk_console.specs.declared.console.TheConstants.{SESSION}
use Rattle.desk_console.specs.declared.stop.Stop.{Stop}
use Rattle.desk_console.specs.declared.stop.Stop.TheVariants as stop

-- ---- what lines ask for
asked-append : (lines later : List (List ℕ))
    → commands_asked_by (lines ++ later) ≡ commands_asked_by lines
    ++ commands_asked_by later
unfolding commands_asked_by
asked-append lines later = filter_map-append (λ line. asked_for (line_says line)) lines later

-- a line asks for what it says
pub asked-line : (line : List ℕ) {said : Result (Option Command) CommandFault}
    → line_says line ≡ said → commands_asked_by (line ∷ []) ≡ cons_option (asked_for said) []
unfolding commands_asked_by
asked-line line says = ap (λ said. cons_option (asked_for said) []) says

-- no command but `quit` ends the input
pub other-goes-on : (asked : Command) → ¬ (asked ≡ command.Quit) → quits (Ok (Some asked)) ≡ false
other-goes-on command.Quit other = absurd (other refl)
other-goes-on _ other = refl

-- that a line is no command tells of no failure
pub none-failed : (n : ℕ) → n + failures_in (NoCommand ∷ []) ≤ n
none-failed n = omega arith

-- ---- one line more
none-some : {X Y : Type 0} (x : X) (o : Option X) → o ≡ None → o ≡ Some x → Y
none-some x o none some = cc

abbrev pub OneMore : Type 0
OneMore = (folder : Option Folder) (session : ℕ) (first seat next : Seat)
    (commands : List (Option Command)) (replies : List Reply) (asked : Option Command)
    (reply : Reply) → Told folder session first commands replies seat
    → IsToldOne folder session seat asked next reply
    → Told folder session first (commands ++ asked ∷ []) (replies ++ reply ∷ []) next

module _ {folder here_folder : Option Folder} {failed here_failed : ℕ}
    {stopped_first : Option Stop} {first here : Seat} {stopped : Option Stop}
    {lines : List (List ℕ)} {said : List ℕ}
    (led : HasTold folder here_folder failed here_failed stopped_first first here stopped lines said)
  where
    -- nothing is done for a line that asks for nothing, or for none
    pub idle-on : (more : List (List ℕ)) {folder_now : Option Folder} {failed_now : ℕ}
        → commands_asked_by more ≡ [] → folder_now ≡ here_folder → here_failed ≤ failed_now
        → HasTold folder folder_now failed failed_now stopped_first first here stopped
        (lines ++ more) (said ++ [])
    idle-on more asks same grown = record {
      replies = led.replies;
      seen = led.seen;
      told = subst
          (λ (asked : List (Option Command)). Told folder SESSION first asked led.replies led.seen)
          (sym (asked-append lines more ∙ ap (λ asked. commands_asked_by lines ++ asked) asks
          ∙ append-nil (commands_asked_by lines))) led.told;
      text_is = append-nil said ∙ led.text_is;
      failures = omega (arith, led.failures, grown);
      same = same ∙ led.same;
      later = led.later;
      asks = led.asks;
      going = led.going;
      spent = led.spent;
    }

    -- what a line asks for was replied to
    pub replied-on : OneMore → (later-self : (eye : EyeSeen) → GoesOneOn eye eye)
        → stopped ≡ None → (line : List ℕ) (reply : Reply) {asked : Option Command} {next : Seat}
        {added : List ℕ} {folder_now : Option Folder} {failed_now : ℕ} {stopped_now : Option Stop}
        → commands_asked_by (line ∷ []) ≡ asked ∷ []
        → IsToldOne here_folder SESSION here asked next reply
        → added ≡ written_of (reply ∷ [])
        → here_failed + failures_in (reply ∷ []) ≤ failed_now → folder_now ≡ here_folder
        → stopped_now ≡ None
        → HasTold folder folder_now failed failed_now stopped_first first next stopped_now
        (lines ++ line ∷ []) (said ++ added)
    replied-on one_more self going line reply {asked} {next} {added} {failed_now = failed_now}
        {stopped_now = stopped_now} asks tells added_is failures same goes =
        let sum = sum_by-append (λ (r : Reply). cond (is_no_files r) 1 0) led.replies (reply ∷ []) in
        let here_is : here ≡ led.seen = led.going going in record {
          replies = led.replies ++ reply ∷ [];
          seen = next;
          told = subst
              (λ (commands : List (Option Command)).
              Told folder SESSION first commands (led.replies ++ reply ∷ []) next)
              (sym (asked-append lines (line ∷ []) ∙ ap (λ asked. commands_asked_by lines ++ asked) asks))
              (one_more folder SESSION first led.seen next (commands_asked_by lines) led.replies asked reply
              led.told
              (subst (λ (seat : Seat). IsToldOne folder SESSION seat asked next reply) here_is
              (subst (λ (told : Option Folder). IsToldOne told SESSION here asked next reply)
              led.same tells)));
          text_is = (λ i. led.text_is i ++ added_is i)
              ∙ sym (flat_map-append reply_text led.replies (reply ∷ []));
          failures = omega (arith, sum, led.failures, failures);
          same = same ∙ led.same;
          later = (self next.eye).later;
          asks = (self next.eye).asks;
          going = λ _. refl;
          spent = λ point none some. none-some (stop.Spent point) stopped_now goes some;
        }

    -- the console has stopped
    pub stopped-on : stopped ≡ None → {next : Seat} {stopped_now : Option Stop}
        {folder_now : Option Folder} {failed_now : ℕ} → IsStopped here.eye next.eye stopped_now
        → 1 ≤ lines_left_for_eye here.eye → folder_now ≡ here_folder → here_failed ≤ failed_now
        → HasTold folder folder_now failed failed_now stopped_first first next stopped_now
        (lines ++ []) (said ++ [])
    stopped-on going {next} {stopped_now} stops left same grown =
        let here_is : here ≡ led.seen = led.going going in record {
          replies = led.replies;
          seen = led.seen;
          told = subst
              (λ (more : List (List ℕ)).
              Told folder SESSION first (commands_asked_by more) led.replies led.seen)
              (sym (append-nil lines)) led.told;
          text_is = append-nil said ∙ led.text_is;
          failures = omega (arith, led.failures, grown);
          same = same ∙ led.same;
          later = (subst (λ (seat : Seat). GoesOneOn seat.eye next.eye) here_is stops.cut.goes).later;
          asks = (subst (λ (seat : Seat). GoesOneOn seat.eye next.eye) here_is stops.cut.goes).asks;
          going = λ none. none-some stops.why stopped_now none stops.stopped_is;
          spent = λ point none some. record {
            last = stops.cut.spent point (why-is stops.why (stop.Spent point) stopped_now
                stops.stopped_is some);
            few = few-still (events_in here.eye.counts) (events_in next.eye.counts)
                stops.cut.goes.one left;
          };
        }
      where
        why-is : (one other : Stop) (o : Option Stop) → o ≡ Some one → o ≡ Some other
            → one ≡ other
        why-is one other o is also = cc

        few-still : (old new : ℕ) → new ≤ old + 1 → 1 ≤ most_asked - old → new ≤ most_asked
        few-still old new one left = omega (arith, one, left)
