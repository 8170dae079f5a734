-- The lines of a file, of which the first has to count, and what is read of the file.
use Rattle.std.proofs.Common.{◌≡◌, ℕ, true, false, cond, List, [], ◌∷◌, ◌++◌, length, map, Some}
use Rattle.std.proofs.Common.{None, Result, Err, refl, sym, ap, ◌∙◌, subst, arith}
use Rattle.text_lines.specs.declared.found.Line.{Line}
use Rattle.text_lines.specs.Lines.{text_of, good_lines, bad_line}
use Rattle.spell_types.specs.declared.Affixes.{Affixes}
use Rattle.spell_types.specs.declared.Entry.{Entry}
use Rattle.dic_reader.specs.declared.faults.DicFault.{DicFault}
use Rattle.dic_reader.specs.declared.faults.DicWhy.TheVariants.{NotUtf8, BadCount}
use Rattle.text_lines.specs.Texts.{texts_in}
use Rattle.text_lines.specs.Laws.{no-texts}
use Rattle.dic_reader.specs.Entries.{listed, is_count, AreLinesOf}
use Rattle.dic_reader.specs.Faults.{DicFaultAtLine, dic_cause_number, bad_faults, least_dic_fault}
use Rattle.dic_reader.specs.Faults.{first_dic_fault}
use Rattle.dic_reader.specs.Faults.{entry_limit, entries_faults, lines_faults, entry_said}
use Rattle.dic_reader.specs.Faults.{entries_said, entries_read, lines_read, dic_read}
use Rattle.dic_reader.specs.Faults.{AreEntriesRead}
use Rattle.line_faults.specs.Faults.{is_before, fault_at, unless_fault}
use Rattle.line_faults.specs.Laws.{NoneBefore, higher-line, none-before-stays}
use Rattle.dic_reader.proofs.OrderLemmas.{AreBehind, AreNumbered, rising, first-behind}
use Rattle.dic_reader.proofs.OrderLemmas.{first-number, entries-behind-stay}
use Rattle.text_lines.specs.lists.Laws.{or-none}

-- ---- the first line and those behind it

-- the lines of a text by its first line and the text behind that
pub record Parted (bytes : List ℕ) (lines : List Line) (line behind : List ℕ) : Type 0 where
  pub count : Line
  pub later : List Line
  pub is : lines ≡ count ∷ later
  pub text : text_of bytes count ≡ line
  pub lines_behind : AreLinesOf bytes 2 later behind

pub parted : (bytes : List ℕ) (lines : List Line) (text line behind : List ℕ)
    → AreLinesOf bytes 1 lines text → texts_in text ≡ line ∷ texts_in behind
    → Parted bytes lines line behind
parted bytes lines text line behind are first = go lines (sym first ∙ are.texts) are.numbers
  where
    go : (ls : List Line) → line ∷ texts_in behind ≡ map (text_of bytes) ls → AreNumbered 1 ls
        → Parted bytes ls line behind
    go [] same numbers = absurd (cc)
    go (count ∷ later) same numbers = record {
      count = count;
      later = later;
      is = refl;
      text = cc;
      lines_behind = record { texts = cc; numbers = cc };
    }

pub no-line-of : (bytes : List ℕ) (lines : List Line) (text : List ℕ)
    → AreLinesOf bytes 1 lines text → length text ≡ 0 → length lines ≡ 0
no-line-of bytes lines text are none = go lines (sym (no-texts text none) ∙ are.texts)
  where
    go : (ls : List Line) → [] ≡ map (text_of bytes) ls → length ls ≡ 0
    go [] same = refl
    go (line ∷ more) same = absurd (cc)

-- where the first line counts, what is read is what is read of the entries
pub counted : (affixes : Affixes) (bytes : List ℕ) (lines later : List Line) (count : Line)
    (result : Result (List Entry) DicFault)
    → lines ≡ count ∷ later → is_count (text_of bytes count) ≡ true
    → AreEntriesRead (entries_read affixes entry_limit (listed bytes later)) result
    → AreEntriesRead (lines_read affixes bytes lines) result
unfolding entries_read lines_read
counted affixes bytes lines later count result is counts =
    let entries = listed bytes later in
    let said = map (entry_said affixes) entries in
    subst (λ (read : Result (List Entry) DicFaultAtLine). AreEntriesRead read result)
    (sym
    (ap (λ own. unless_fault (least_dic_fault (lines_faults affixes bytes own))
    (entries_said affixes bytes own)) is
    ∙ ap (λ b. unless_fault
    (least_dic_fault (cond b [] (fault_at count.number BadCount ∷ [])
    ++ entries_faults affixes entry_limit entries)) said) counts))

-- where it does not, its fault goes before those of the entries
pub uncounted : (affixes : Affixes) (bytes : List ℕ) (lines later : List Line) (count : Line)
    → lines ≡ count ∷ later → AreNumbered 1 lines
    → is_count (text_of bytes count) ≡ false
    → lines_read affixes bytes lines ≡ Err (fault_at 1 BadCount)
unfolding lines_read
uncounted affixes bytes lines later count is numbered lacks =
    let entries = listed bytes later in
    let fault = fault_at count.number BadCount in
    let said = map (entry_said affixes) entries in
    let own = subst (AreNumbered 1) is numbered in
    let behind : AreBehind count.number entries =
    first-behind bytes count later (rising 1 (count ∷ later) own) in
    let none : NoneBefore dic_cause_number fault (entries_faults affixes entry_limit entries) =
    entries-behind-stay affixes (λ other. is_before dic_cause_number other fault ≡ false) count.number
    (λ other above. higher-line dic_cause_number fault other above) entry_limit entries behind in
    ap (λ all. unless_fault (least_dic_fault (lines_faults affixes bytes all))
    (entries_said affixes bytes all)) is
    ∙ ap (λ b. unless_fault
    (least_dic_fault (cond b [] (fault ∷ []) ++ entries_faults affixes entry_limit entries)) said)
    lacks
    ∙ ap (λ o. unless_fault o said)
    (none-before-stays dic_cause_number fault (entries_faults affixes entry_limit entries) none)
    ∙ ap (λ n. Err (fault_at n BadCount)) (first-number count later own)

pub no-lines : (affixes : Affixes) (bytes : List ℕ) (lines : List Line) → length lines ≡ 0
    → lines_read affixes bytes lines ≡ Err (fault_at 1 BadCount)
unfolding lines_read
no-lines affixes bytes [] none = refl
no-lines affixes bytes (line ∷ later) none = absurd (omega (arith, none))

-- ---- a file

pub bad-told : (affixes : Affixes) (bytes : List ℕ) (line : ℕ) → bad_line bytes ≡ Some line
    → dic_read affixes bytes ≡ Err (fault_at line NotUtf8)
unfolding dic_read
bad-told affixes bytes line bad =
    ap (λ b. unless_fault
    (first_dic_fault (bad_faults b ∷ lines_faults affixes bytes (good_lines bytes) ∷ []))
    (entries_said affixes bytes (good_lines bytes))) bad

pub of-lines : (affixes : Affixes) (bytes : List ℕ) (lines : List Line)
    (result : Result (List Entry) DicFault)
    → lines ≡ good_lines bytes → bad_line bytes ≡ None
    → AreEntriesRead (lines_read affixes bytes lines) result
    → AreEntriesRead (dic_read affixes bytes) result
unfolding lines_read dic_read
of-lines affixes bytes lines result is none =
    let good = good_lines bytes in
    let said = entries_said affixes bytes good in
    subst (λ (read : Result (List Entry) DicFaultAtLine). AreEntriesRead read result)
    (ap (λ all. unless_fault (least_dic_fault (lines_faults affixes bytes all))
    (entries_said affixes bytes all)) is
    ∙ ap (λ o. unless_fault o said) (sym (or-none (least_dic_fault (lines_faults affixes bytes good))))
    ∙ sym (ap (λ b. unless_fault (first_dic_fault (bad_faults b ∷ lines_faults affixes bytes good ∷ []))
    said) none))
