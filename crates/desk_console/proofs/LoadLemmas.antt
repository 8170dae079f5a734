-- Dictionaries that come into force, and what is wrong with others.
use Rattle.std.proofs.Common.{◌≡◌, ◌∙◌, refl, sym, ap, subst, inl, inr, ◌⊎◌, ⊎_elim, ℕ, true, false}
use Rattle.std.proofs.Common.{List, [], ◌∷◌, ◌++◌, Option, None, Some, Result, Ok, Err, IfOk}
use Rattle.std.specs.Prelude.{IfSome}
use Rattle.outside.specs.lists.Answers.{FailsAs, GivesDue}
use Rattle.outside.specs.Files.{Folder}
use Rattle.mark_types.specs.spell_types.declared.Lexicon.{Lexicon}
use Rattle.personal_words.specs.declared.items.OwnItem.{OwnItem}
use Rattle.personal_words.specs.declared.faults.OwnLineFault.TheVariants.{Why}
use Rattle.personal_words.specs.declared.faults.OwnLineWhy.{OwnLineWhy}
use Rattle.personal_words.specs.Lists.{IsAdded, IsOwnLineRefused, added}
use Rattle.personal_words.specs.Dictionaries.{OwnSeen}
use Rattle.dictionary_swap.specs.Loads.{DictionaryFiles, MayComeOfLoads, lexicon_due, found_in}
use Rattle.dictionary_swap.specs.declared.fault.LoadFault.{LoadFault}
use Rattle.dictionary_swap.specs.declared.fault.LoadFault.TheVariants.{Failed, NoMemory}
use Rattle.board_share.specs.Eyes.{last_of}
use Rattle.console_lang.specs.declared.reply.Reply.{Reply}
use Rattle.console_lang.specs.declared.reply.Reply.TheVariants.{Done, NoOwn}
use Rattle.console_board.specs.OwnConsoles.{fault_reply}
use Rattle.console_board.specs.Transcripts.{IsThere}
use Rattle.console_history.specs.Told.{Due, FilesFailed, IsBaseTold, IsItemTold, IsLoadTold}
use Rattle.console_history.specs.Told.{IsOwnTold, IsReloadTold, Looks, Seat}
use Rattle.desk_console.specs.declared.stop.Stop.{Stop}

-- what is told of a reply, where there is one
both : (result : Result Reply Stop) {P Q R : Reply → Type 0}
    → ((reply : Reply) → P reply → Q reply → R reply)
    → IfOk result P → IfOk result Q → IfOk result R
both (Ok reply) gives p q = gives reply p q
both (Err stop) gives p q = tt

-- ---- `load`

-- a result is due of some files, and of those of the folder that is told, where one is
pub record IsDue (told : Option Folder) (aff dic : List ℕ)
    (result : Result Lexicon LoadFault) : Type 0 where
  pub found : (there : DictionaryFiles)
      × GivesDue MayComeOfLoads (λ speller. speller) (lexicon_due there) result
  pub told_is : IfSome told (λ folder.
      GivesDue MayComeOfLoads (λ speller. speller) (lexicon_due (found_in folder aff dic)) result)

-- so there are some of which it is due: those of the folder that is told, where one is
found-files : (told : Option Folder) {aff dic : List ℕ} {result : Result Lexicon LoadFault}
    → IsDue told aff dic result → (there : DictionaryFiles) × IsThere told aff dic there
    × GivesDue MayComeOfLoads (λ speller. speller) (lexicon_due there) result
found-files None due = (due.found.0, tt, due.found.1)
found-files (Some folder) {aff} {dic} due = (found_in folder aff dic, refl, due.told_is)

-- a dictionary that is read comes into force, with the same personal words
pub loads-read : {told : Option Folder} {aff dic : List ℕ} {base : Lexicon} {made : OwnSeen}
    (before after : Seat) (result : Result Reply Stop) → IsDue told aff dic (Ok base)
    → made ≡ record before.dictionary { base = base }
    → IfOk result (IsReloadTold before.eye after)
    → IfOk result (λ reply. after.dictionary ≡ made)
    → IfOk result (IsLoadTold told aff dic before after)
loads-read {told} before after result due made_is reloads same =
    let files = found-files told due in
    both result (λ reply reload is.
    Due files.0 files.1
    (subst (λ read. IsBaseTold before read after reply) (sym files.2) (is ∙ made_is, reload)))
    reloads same

-- a fault that is not of memory is of files that failed, or it is what is due
failed-or-due : {due : Result Lexicon LoadFault} (fault : LoadFault) → ¬ (fault ≡ NoMemory)
    → FailsAs MayComeOfLoads due fault → (fault ≡ Failed) ⊎ (due ≡ Err fault)
failed-or-due fault other (inr due) = inr due
failed-or-due Failed other (inl comes) = inl refl
failed-or-due NoMemory other (inl comes) = absurd (other refl)
failed-or-due _ other (inl comes) = absurd comes

-- what is wrong with the files is told, and nothing changes
pub faults-load : {told : Option Folder} {before after : Seat} {aff dic : List ℕ}
    {fault : LoadFault} {reply : Reply}
    → IsDue told aff dic (Err fault) → ¬ (fault ≡ NoMemory) → reply ≡ fault_reply fault
    → after ≡ before → IsLoadTold told aff dic before after reply
faults-load {told} {before} {after} {fault = fault} {reply = reply} due other is stays =
    let files = found-files told due in
    ⊎_elim (λ failed. FilesFailed stays (is ∙ ap fault_reply failed))
    (λ read. Due files.0 files.1
    (subst (λ due. IsBaseTold before due after reply) (sym read) (stays, is)))
    (failed-or-due fault other files.2)

-- ---- `own`

-- an item comes into force behind the others
pub own-added : (before after : Seat) (text : List ℕ) (item : OwnItem) {made : OwnSeen}
    (result : Result Reply Stop)
    → added before.dictionary.base.affixes before.dictionary.own text ≡ Ok (Some item)
    → made ≡ record before.dictionary { own = before.dictionary.own ++ item ∷ [] }
    → IfOk result (IsReloadTold before.eye after)
    → IfOk result (λ reply. after.dictionary ≡ made)
    → IfOk result (IsOwnTold before text after)
own-added before after text item result due made_is reloads same =
    both result (λ reply reload is_made.
    subst (λ due. IsItemTold before due after reply) (sym due) (is_made ∙ made_is, reload))
    reloads same

-- of a blank text a look tells the text's version
pub own-blank : (before after : Seat) (text : List ℕ) {reply : Reply}
    → added before.dictionary.base.affixes before.dictionary.own text ≡ Ok None
    → after.dictionary ≡ before.dictionary → Looks before.eye after.eye
    → reply ≡ Done (last_of after.eye.run).text_version
    → IsOwnTold before text after reply
own-blank before after text {reply} due stays looks told =
    subst (λ due. IsItemTold before due after reply) (sym due) (stays, (looks, told))

-- a text that is refused is told why
pub own-refused : (before after : Seat) (text : List ℕ) (why : OwnLineWhy) {reply : Reply}
    → IsOwnLineRefused (added before.dictionary.base.affixes before.dictionary.own text) (Why why)
    → reply ≡ NoOwn why → after ≡ before → IsOwnTold before text after reply
own-refused before after text why {reply} refused told stays =
    subst (λ due. IsItemTold before due after reply) (sym refused) (stays, told)
