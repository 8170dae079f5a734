-- What calls answer, each as a number.
use Rattle.std.specs.Prelude.{◌≡◌, ℕ, ◌<◌, ◌≤◌, ◌^◌, true, false, List, [], ◌∷◌, ◌++◌, length, map, drop}
use Rattle.std.specs.Prelude.{Option, Some, None, IsSome, Result, Ok, Err, IsUtf8, chars}
use Rattle.mark_types.specs.declared.Mark.{Mark}
use Rattle.mark_types.specs.spell_types.Yields.{yields}
use Rattle.mark_types.specs.spell_types.declared.Affixes.{Affixes}
use Rattle.paragraph_marks.specs.Paragraphs.{marks_in}
use Rattle.personal_words.specs.Lists.{added}
use Rattle.personal_words.specs.declared.faults.OwnLineWhy.TheVariants as line
use Rattle.personal_words.specs.declared.items.OwnItem.{OwnItem}
use Rattle.affedit_c.specs.Dictionaries.{HandleSeen, handle_lexicon}
use Rattle.affedit_c.specs.Fronts.{array_with}
use Rattle.positions.specs.declared.Encoding.{Encoding}
use Rattle.affedit_c.specs.Marks.{encoding_of, span_in, span_of_mark}
use Rattle.affedit_c.specs.declared.answers.Answer.{Answer}
use Rattle.affedit_c.specs.declared.answers.Answer.TheVariants.{Done, Known, Unknown, Faulty}
use Rattle.affedit_c.specs.declared.answers.Answer.TheVariants.{Blank, EmptyWord, TooMany}
use Rattle.affedit_c.specs.declared.answers.Answer.TheVariants.{NotUtf8, TooLong, Closed, NoMemory, BadUnit}
use Rattle.affedit_c.specs.declared.faults.Fault.{Fault}
use Rattle.affedit_c.specs.declared.faults.Refusal.{Refusal}
use Rattle.affedit_c.specs.declared.faults.Refusal.TheVariants.{Refused}
use Rattle.affedit_c.specs.declared.marking.MarkSpan.{MarkSpan}

-- the number by which C is told an answer
unfoldable pub answer_number : Answer → ℕ
answer_number Done = 0
answer_number Known = 1
answer_number Unknown = 2
answer_number Faulty = 3
answer_number Blank = 4
answer_number EmptyWord = 5
answer_number TooMany = 6
answer_number NotUtf8 = 7
answer_number TooLong = 8
answer_number Closed = 9
answer_number NoMemory = 10
answer_number BadUnit = 11

-- the number is that of an answer that is right
abbrev pub SaysAnswer : (Answer → Type 0) → ℕ → Type 0
SaysAnswer IsRight number = (answer : Answer) × (number ≡ answer_number answer) × IsRight answer

-- ---- a dictionary is opened, of which this is read: what the handle has before and then, and what
-- stands where a fault is told

unfoldable pub OpenAnswers : Result HandleSeen Refusal → Option HandleSeen → Option HandleSeen
    → Fault → Fault
    → Answer → Type 0
OpenAnswers read old new before then Done =
    (seen : HandleSeen) × (read ≡ Ok seen) × (new ≡ Some seen) × (then ≡ before)
OpenAnswers read old new before then Faulty = (read ≡ Err (Refused then)) × (new ≡ old)
OpenAnswers read old new before then NoMemory = (new ≡ old) × (then ≡ before)
OpenAnswers _ _ _ _ _ _ = ⊥

-- ---- another handle on what a handle has

unfoldable pub ShareAnswers : Option HandleSeen → Option HandleSeen → Option HandleSeen → Answer
    → Type 0
ShareAnswers (Some seen) old new Done = new ≡ Some seen
ShareAnswers (Some seen) old new NoMemory = new ≡ old
ShareAnswers None old new Closed = new ≡ old
ShareAnswers _ _ _ _ = ⊥

-- ---- a word is asked

unfoldable pub WordAnswers : Option HandleSeen → List ℕ → Answer → Type 0
WordAnswers (Some seen) word Known = IsUtf8 word × (yields (handle_lexicon seen) (chars word) ≡ true)
WordAnswers (Some seen) word Unknown = IsUtf8 word × (yields (handle_lexicon seen) (chars word) ≡ false)
WordAnswers (Some seen) word NotUtf8 = ¬ (IsUtf8 word)
WordAnswers (Some seen) word NoMemory = Unit {0}
WordAnswers None word Closed = Unit {0}
WordAnswers _ _ _ = ⊥

-- ---- the marks of a text are asked: what the array has before and then, and the count

-- the array begins with the marks of the text, as many as it has room for, and they are counted
abbrev pub AreMarks : List Mark → List MarkSpan → List MarkSpan → ℕ → Type 0
AreMarks marks old new count =
    (new ≡ array_with (map span_of_mark marks) old) × (count ≡ length marks)

unfoldable pub MarkAnswers : Option HandleSeen → List ℕ → List MarkSpan → List MarkSpan → ℕ → ℕ
    → Answer
    → Type 0
MarkAnswers (Some seen) text old new before then Done =
    IsUtf8 text × (length text < 2 ^ 32)
    × AreMarks (marks_in (handle_lexicon seen) (chars text)) old new then
MarkAnswers (Some seen) text old new before then NotUtf8 =
    ¬ (IsUtf8 text) × (length text < 2 ^ 32) × (new ≡ old) × (then ≡ before)
MarkAnswers (Some seen) text old new before then TooLong =
    (2 ^ 32 ≤ length text) × (new ≡ old) × (then ≡ before)
MarkAnswers (Some seen) text old new before then NoMemory = (new ≡ old) × (then ≡ before)
MarkAnswers None text old new before then Closed = (new ≡ old) × (then ≡ before)
MarkAnswers _ _ _ _ _ _ _ = ⊥

-- ---- the marks of a text are asked from one on, with places in these units: what the array has
-- before and then, and the count

-- the array begins with the marks of the text from this one on, as many as it has room for, and all
-- are counted
abbrev pub AreMarksIn : Encoding → List ℕ → ℕ → List Mark → List MarkSpan → List MarkSpan → ℕ
    → Type 0
AreMarksIn encoding text first marks old new count =
    (new ≡ array_with (map (span_in encoding text) (drop first marks)) old)
    × (count ≡ length marks)

unfoldable pub MarkInAnswers : Option HandleSeen → List ℕ → ℕ → ℕ → List MarkSpan → List MarkSpan
    → ℕ → ℕ
    → Answer
    → Type 0
MarkInAnswers (Some seen) text unit first old new before then Done =
    IsUtf8 text × (length text < 2 ^ 32) × ((encoding : Encoding)
    × (encoding_of unit ≡ Some encoding) × AreMarksIn encoding (chars text) first
    (marks_in (handle_lexicon seen) (chars text)) old new then)
MarkInAnswers (Some seen) text unit first old new before then BadUnit =
    (encoding_of unit ≡ None) × (new ≡ old) × (then ≡ before)
MarkInAnswers (Some seen) text unit first old new before then NotUtf8 =
    ¬ (IsUtf8 text) × (length text < 2 ^ 32) × (IsSome (encoding_of unit)) × (new ≡ old)
    × (then ≡ before)
MarkInAnswers (Some seen) text unit first old new before then TooLong =
    (2 ^ 32 ≤ length text) × (IsSome (encoding_of unit)) × (new ≡ old) × (then ≡ before)
MarkInAnswers (Some seen) text unit first old new before then NoMemory =
    (new ≡ old) × (then ≡ before)
MarkInAnswers None text unit first old new before then Closed = (new ≡ old) × (then ≡ before)
MarkInAnswers _ _ _ _ _ _ _ _ _ = ⊥

-- ---- the characters of WORDCHARS are asked: what the array has before and then, and the count

unfoldable pub CharacterAnswers : Option HandleSeen → List ℕ → List ℕ → ℕ → ℕ → Answer → Type 0
CharacterAnswers (Some seen) old new before then Done =
    (new ≡ array_with seen.base.affixes.wordchars old)
    × (then ≡ length seen.base.affixes.wordchars)
CharacterAnswers None old new before then Closed = (new ≡ old) × (then ≡ before)
CharacterAnswers _ _ _ _ _ _ = ⊥

-- ---- a line is added to the personal words

-- the item of the line is behind the others
abbrev pub IsWordAdded : HandleSeen → List ℕ → Option HandleSeen → Type 0
IsWordAdded seen text new = (item : OwnItem)
    × (added seen.base.affixes seen.own text ≡ Ok (Some item))
    × (new ≡ Some (record seen { own = seen.own ++ item ∷ [] }))

unfoldable pub AddAnswers : Option HandleSeen → List ℕ → Option HandleSeen → Answer → Type 0
AddAnswers (Some seen) text new Done = IsUtf8 text × IsWordAdded seen text new
AddAnswers (Some seen) text new Blank =
    IsUtf8 text × (added seen.base.affixes seen.own text ≡ Ok None) × (new ≡ Some seen)
AddAnswers (Some seen) text new EmptyWord =
    IsUtf8 text × (added seen.base.affixes seen.own text ≡ Err line.EmptyWord) × (new ≡ Some seen)
AddAnswers (Some seen) text new TooMany =
    IsUtf8 text × (added seen.base.affixes seen.own text ≡ Err line.TooMany) × (new ≡ Some seen)
AddAnswers (Some seen) text new NotUtf8 = ¬ (IsUtf8 text) × (new ≡ Some seen)
AddAnswers (Some seen) text new NoMemory = new ≡ Some seen
AddAnswers None text new Closed = new ≡ None
AddAnswers _ _ _ _ = ⊥

-- ---- a list of personal words takes the place of another

unfoldable pub ListAnswers : (Affixes → Result (List OwnItem) Refusal) → Option HandleSeen
    → Option HandleSeen
    → Fault → Fault → Answer → Type 0
ListAnswers read (Some seen) new before then Done =
    (own : List OwnItem) × (read seen.base.affixes ≡ Ok own)
    × (new ≡ Some (record seen { own = own })) × (then ≡ before)
ListAnswers read (Some seen) new before then Faulty =
    (read seen.base.affixes ≡ Err (Refused then)) × (new ≡ Some seen)
ListAnswers read (Some seen) new before then NoMemory = (new ≡ Some seen) × (then ≡ before)
ListAnswers read None new before then Closed = (new ≡ None) × (then ≡ before)
ListAnswers _ _ _ _ _ _ = ⊥
