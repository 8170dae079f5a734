-- A console with personal words: beside it stand the dictionary that was loaded last, its base, and
-- the items of the list. The dictionary in force is the base extended by the list.
use Rattle.std.specs.Prelude.{ℕ, List, [], ◌∷◌, ◌++◌, Option, Some, None, Result, Ok, Err}
use Rattle.console_lang.specs.declared.reply.Reply.{Reply}
use Rattle.console_lang.specs.declared.reply.Reply.TheVariants.{Done, NoMissing, NoAff, NoDic}
use Rattle.console_lang.specs.declared.reply.Reply.TheVariants.{NoOwn, NoFiles, NoLarge}
use Rattle.dictionary_swap.specs.declared.fault.LoadFault.{LoadFault}
use Rattle.dictionary_swap.specs.declared.fault.LoadFault.TheVariants.{Failed, Missing, TooLong}
use Rattle.dictionary_swap.specs.declared.fault.LoadFault.TheVariants.{Aff, Dic, NoMemory}
use Rattle.personal_words.specs.declared.items.OwnItem.{OwnItem}
use Rattle.personal_words.specs.declared.faults.OwnLineWhy.{OwnLineWhy}
use Rattle.personal_words.specs.Extended.{extended}
use Rattle.personal_words.specs.Lists.{added}
use Rattle.mark_types.specs.spell_types.declared.Lexicon.{Lexicon}
use Rattle.console_board.specs.Consoles.{Console, console_after_load, opened_console}

pub record OwnConsole : Type 0 where
  pub console : Console
  pub base : Lexicon
  pub own : List OwnItem

-- a console opens by a base and a list, without a text
abbrev pub own_opened : Lexicon → List OwnItem → OwnConsole
own_opened base own =
    record { console = opened_console (extended base own); base = base; own = own }

-- a reply, and the console behind it
pub record OwnOutcome : Type 0 where
  pub reply : Reply
  pub after : OwnConsole

-- a reply that leaves the console as it was
abbrev own_stays : OwnConsole → Reply → OwnOutcome
own_stays before reply = record { reply = reply; after = before }

-- a base extended by a list comes into force; the reply tells the dictionary's version
abbrev pub put_in_force : OwnConsole → Lexicon → List OwnItem → OwnOutcome
put_in_force before base own =
    let outcome = console_after_load before.console (extended base own) in record {
      reply = outcome.reply;
      after = record { console = outcome.after; base = base; own = own };
    }

-- The reply to a dictionary's fault. Want of memory is never due, and has no reply: it ends the
-- console.
abbrev pub fault_reply : LoadFault → Reply
fault_reply Missing = NoMissing
fault_reply (TooLong limit) = NoLarge
fault_reply (Aff line why) = NoAff line why
fault_reply (Dic line why) = NoDic line why
fault_reply Failed = NoFiles
fault_reply NoMemory = NoFiles

-- `load AFF DIC`: what is due of a dictionary becomes the base, and the list stays; or its fault is
-- told
abbrev pub load_outcome : OwnConsole → Result Lexicon LoadFault → OwnOutcome
load_outcome before (Ok base) = put_in_force before base before.own
load_outcome before (Err fault) = own_stays before (fault_reply fault)

-- `own TEXT`, by what the text says as one more line of the list: nothing where it is blank, and the
-- reply tells the text's version then; an item, which stands behind those of before; or a fault,
-- which is told
abbrev pub own_outcome : OwnConsole → Result (Option OwnItem) OwnLineWhy → OwnOutcome
own_outcome before (Ok None) = own_stays before (Done before.console.text_version)
own_outcome before (Ok (Some item)) = put_in_force before before.base (before.own ++ item ∷ [])
own_outcome before (Err why) = own_stays before (NoOwn why)

abbrev pub owned : OwnConsole → List ℕ → OwnOutcome
owned before text = own_outcome before (added before.base.affixes before.own text)
