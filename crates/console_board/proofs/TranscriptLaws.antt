-- A transcript is determined, where nobody checks meanwhile and the files do not fail.
use Rattle.std.proofs.Common.{◌≡◌, ◌∙◌, sym, ap, subst, inl, inr, ℕ, ◌+◌, Bool, true, false, cond}
use Rattle.std.proofs.Common.{List, [], ◌∷◌, Option, Some, None, refl, arith}
use Rattle.std.proofs.lemmas.List.Sums.{sum_by-cons}
use Rattle.dictionary_swap.specs.Loads.{found_in, lexicon_due}
use Rattle.outside.specs.Files.{Folder}
use Rattle.mark_types.specs.spell_types.declared.Lexicon.{Lexicon}
use Rattle.console_lang.specs.declared.command.Command.{Command}
use Rattle.console_lang.specs.declared.command.Command.TheVariants.{Load, Own, Quit}
use Rattle.console_lang.specs.declared.reply.Reply.{Reply}
use Rattle.personal_words.specs.declared.items.OwnItem.{OwnItem}
use Rattle.console_board.specs.Consoles.{Console}
use Rattle.console_board.specs.OwnConsoles.{OwnConsole, load_outcome, own_opened}
use Rattle.console_board.specs.Transcripts.{HasOwnOutcome, LoadsFiles, IsReplyTo, IsOwnReplyTo}
use Rattle.console_board.specs.Transcripts.{Answers}
use Rattle.console_board.specs.Transcripts.{IsReplyToAsked, IsTranscript, commands_asked_by}
use Rattle.console_board.specs.Transcripts.{is_no_files}
use Rattle.console_board.specs.Transcripts.{failures_in}

-- where no files failed, none did at the first reply
no-failure : (reply : Reply) (replies : List Reply) → failures_in (reply ∷ replies) ≡ 0
    → (is_no_files reply ≡ false) × (failures_in replies ≡ 0)
no-failure reply replies none =
    by (is_no_files reply) refl (sym (sum_by-cons (λ r. cond (is_no_files r) 1 0) reply replies)
    ∙ none)
  where
    by : (fails : Bool) → is_no_files reply ≡ fails → cond fails 1 0 + failures_in replies ≡ 0
        → (is_no_files reply ≡ false) × (failures_in replies ≡ 0)
    by true is sum = absurd (omega arith)
    by false is sum = (is, omega arith)

-- a command that changes no dictionary determines the reply and the console behind it
beside-once : (before : Console) (command : Command) {reply other : Reply} {after next : Console}
    → IsReplyTo before command reply after → IsReplyTo before command other next
    → (reply ≡ other) × (after ≡ next)
unfolding IsReplyTo
beside-once before (Load aff dic) is also = absurd is
beside-once before (Own text) is also = absurd is
beside-once before Quit is also = absurd is
beside-once before _ is also = (is.0 ∙ sym also.0, is.1 ∙ sym also.1)

module _ (folder : Folder) where
  -- of a load that is not told to have failed the outcome is that of the folder's files
  loads-are : {before after : OwnConsole} {aff dic : List ℕ} {reply : Reply}
      → LoadsFiles (Some folder) before aff dic reply after → is_no_files reply ≡ false
      → HasOwnOutcome (load_outcome before (lexicon_due (found_in folder aff dic))) reply after
  loads-are {before} {after} {reply = reply} (inl loaded) told =
      subst (λ there. HasOwnOutcome (load_outcome before (lexicon_due there)) reply after) loaded.1
      loaded.2
  loads-are (inr failed) told =
      let same : true ≡ false = ap is_no_files (sym failed.0) ∙ told in
      absurd (cc)

  -- what is asked for determines the reply and the console behind it
  replies-once : (before : OwnConsole) (asked : Option Command) {reply other : Reply}
      {after next : OwnConsole}
      → IsReplyToAsked (Some folder) before asked reply after
      → IsReplyToAsked (Some folder) before asked other next
      → is_no_files reply ≡ false → is_no_files other ≡ false → (reply ≡ other) × (after ≡ next)
  unfolding IsOwnReplyTo
  replies-once before None is also told told_too = (is.0 ∙ sym also.0, is.1 ∙ sym also.1)
  replies-once before (Some (Load aff dic)) is also told told_too =
      let one = loads-are is told in
      let two = loads-are also told_too in
      (one.0 ∙ sym two.0, one.1 ∙ sym two.1)
  replies-once before (Some (Own text)) is also told told_too =
      (is.0 ∙ sym also.0, is.1 ∙ sym also.1)
  replies-once before (Some command) is also told told_too =
      let one = beside-once before.console command is.0 also.0 in
      (one.0, is.1 ∙ ap (λ console. record before { console = console }) one.1 ∙ sym also.1)

  -- from one console on, what is asked for determines the replies
  answers-once : (before : OwnConsole) (commands : List (Option Command))
      (replies others : List Reply)
      (after next : OwnConsole) → Answers 0 (Some folder) before commands replies after
      → Answers 0 (Some folder) before commands others next
      → failures_in replies ≡ 0 → failures_in others ≡ 0 → replies ≡ others
  answers-once before [] replies others after next is also none too = is.0 ∙ sym also.0
  answers-once before (command ∷ commands) [] others after next is also none too = absurd is
  answers-once before (command ∷ commands) (reply ∷ replies) [] after next is also none too =
      absurd also
  answers-once before (command ∷ commands) (reply ∷ replies) (other ∷ others) after next is also
      none too =
      let told = no-failure reply replies none in
      let told_too = no-failure other others too in
      let same = replies-once before command (rw is.1 at is.2.1) (rw also.1 at also.2.1) told.0
      told_too.0 in
      let rest = rw (← same.1) at also.2.2 in
      (λ i. same.0 i ∷ answers-once is.2.0 commands replies others after next is.2.2 rest told.1
      told_too.1 i)

  -- a console that opens with a dictionary and personal words replies to lines in one way
  pub transcript-once : (base : Lexicon) (own : List OwnItem) (lines : List (List ℕ))
      (replies others : List Reply)
      → IsTranscript 0 (Some folder) base own lines replies
      → IsTranscript 0 (Some folder) base own lines others
      → failures_in replies ≡ 0 → failures_in others ≡ 0 → replies ≡ others
  transcript-once base own lines replies others is also =
      answers-once (own_opened base own) (commands_asked_by lines) replies others is.last also.last is.answers
      also.answers
