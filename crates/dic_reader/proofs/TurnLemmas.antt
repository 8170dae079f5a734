-- A turn of the loop over the lines with entries.
use Rattle.std.proofs.Common.{suc, ◌≡◌, ◌≢◌, ℕ, ◌+◌, ◌<◌, ◌≤◌, Bool, true, false, cond, List, []}
use Rattle.std.proofs.Common.{◌∷◌}
use Rattle.std.proofs.Common.{◌++◌, length, map, take, drop, Some, None, Ok, Err, All, sym, ap, ◌∙◌}
use Rattle.std.proofs.Common.{subst, arith, get_or, add-one, length-append}
use Rattle.std.specs.List.{cons_option}
use Rattle.std.proofs.lemmas.List.{take_more, take-append-drop, take_all, append-nil, length-map}
use Rattle.std.proofs.lemmas.List.{map-append}
use Rattle.std.proofs.lemmas.List.Elements.{filter_map-append, All-push}
use Rattle.std.proofs.lemmas.List.{get_or-map, get_or_default, length-drop}
use Rattle.std.proofs.Math.Seq.{drop-cons}
use Rattle.text_lines.specs.declared.found.Line.{Line}
use Rattle.text_lines.specs.Lines.{text_of}
use Rattle.text_lines.specs.Texts.{texts_in}
use Rattle.text_lines.specs.Laws.{no-texts}
use Rattle.spell_types.specs.declared.Affixes.{Affixes}
use Rattle.spell_types.specs.declared.Entry.{Entry}
use Rattle.dic_reader.specs.declared.faults.DicFault.{DicFault}
use Rattle.dic_reader.specs.declared.faults.DicFault.TheVariants.{At, NoMemory}
use Rattle.dic_reader.specs.declared.faults.DicWhy.TheVariants.{TooMany}
use Rattle.dic_reader.specs.Entries.{AreLinesOf, Listed, entry_at, entry_of_line, is_passed_over}
use Rattle.dic_reader.specs.Entries.{listed_in, listed}
use Rattle.line_faults.specs.Faults.{fault_at, unless_fault}
use Rattle.line_faults.specs.Laws.{least-none}
use Rattle.dic_reader.specs.Faults.{dic_cause_number, least_dic_fault, entry_faults, entries_faults}
use Rattle.dic_reader.specs.Faults.{entry_said, entry_read, entries_read, IsTold}
use Rattle.dic_reader.proofs.FaultLemmas.{read-fault, read-said, told-fault}
use Rattle.dic_reader.proofs.OrderLemmas.{number-at, rising, own_faults, AreBehind, AreRising}
use Rattle.dic_reader.proofs.OrderLemmas.{own-seam, own-fault}
use Rattle.dic_reader.proofs.OrderLemmas.{many-fault, no-fault, listed-behind, lines-behind}

abbrev pub no-line : Line
no-line = record { number = 0; from = 0; to = 0 }

-- ---- the entries of lines

split-lines : (bytes : List ℕ) (lines : List Line) (place : ℕ) → place < length lines
    → listed bytes lines ≡ listed bytes (take place lines)
    ++ cons_option (listed_in bytes (get_or lines place no-line))
    (listed bytes (drop (place + 1) lines))
split-lines bytes lines place within =
    let line = get_or lines place no-line in
    let cut : drop place lines ≡ line ∷ drop (place + 1) lines =
    drop-cons lines place no-line within ∙ ap (λ n. line ∷ drop n lines) (sym (add-one place)) in
    ap (listed bytes)
    (sym (take-append-drop place lines) ∙ ap (λ rest. take place lines ++ rest) cut)
    ∙ filter_map-append (listed_in bytes) (take place lines) (line ∷ drop (place + 1) lines)

more-lines : (bytes : List ℕ) (lines : List Line) (place : ℕ) → place < length lines
    → listed bytes (take (place + 1) lines) ≡ listed bytes (take place lines)
    ++ cons_option (listed_in bytes (get_or lines place no-line)) []
more-lines bytes lines place within =
    ap (listed bytes) (take_more lines place no-line within)
    ∙ filter_map-append (listed_in bytes) (take place lines) (get_or lines place no-line ∷ [])

-- what a line has, by whether it is passed over
line-says : (bytes : List ℕ) (line : Line) {text : List ℕ} {passed : Bool}
    → text ≡ text_of bytes line → is_passed_over text ≡ passed
    → listed_in bytes line ≡ cond passed None (Some (entry_at line.number (entry_of_line text)))
line-says bytes line {text} is tested =
    ap (λ t. cond (is_passed_over t) None (Some (entry_at line.number (entry_of_line t)))) (sym is)
    ∙ ap (λ b. cond b None (Some (entry_at line.number (entry_of_line text)))) tested

-- a place of the loop at which an entry stands
pub record Turn (bytes : List ℕ) (lines : List Line) (place : ℕ) (entry : Listed) : Type 0 where
  pub next : listed bytes (take (place + 1) lines) ≡ listed bytes (take place lines) ++ entry ∷ []
  pub whole : listed bytes lines ≡ listed bytes (take place lines) ++ entry
      ∷ listed bytes (drop (place + 1) lines)
  pub behind : AreBehind entry.number (listed bytes (drop (place + 1) lines))

pub turn-at : (bytes : List ℕ) (lines : List Line) (place : ℕ) {text own : List ℕ} → AreRising lines
    → place < length lines
    → text ≡ text_of bytes (get_or lines place no-line) → is_passed_over text ≡ false
    → own ≡ entry_of_line text
    → Turn bytes lines place (entry_at (get_or lines place no-line).number own)
turn-at bytes lines place {text} {own} rises within is has own_is =
    let line = get_or lines place no-line in
    let earlier = listed bytes (take place lines) in
    let more = listed bytes (drop (place + 1) lines) in
    let made : listed_in bytes line ≡ Some (entry_at line.number own) =
    line-says bytes line is has ∙ ap (λ t. Some (entry_at line.number t)) (sym own_is) in
    record {
      next = more-lines bytes lines place within ∙ ap (λ o. earlier ++ cons_option o []) made;
      whole = split-lines bytes lines place within ∙ ap (λ o. earlier ++ cons_option o more) made;
      behind = listed-behind bytes line.number (drop (place + 1) lines)
          (lines-behind lines place no-line rises within);
    }

-- ---- the line that the loop comes to
pub record Here (bytes : List ℕ) (lines : List Line) (place : ℕ) (line behind : List ℕ) : Type 0
  where
    pub within : place < length lines
    pub is : line ≡ text_of bytes (get_or lines place no-line)
    pub number : (get_or lines place no-line).number ≡ place + 2
    pub next : texts_in behind ≡ drop (place + 1) (map (text_of bytes) lines)

pub here-at : (bytes : List ℕ) (lines : List Line) (place : ℕ) (text rest line behind : List ℕ)
    → AreLinesOf bytes 2 lines text → texts_in rest ≡ drop place (map (text_of bytes) lines)
    → texts_in rest ≡ line ∷ texts_in behind → Here bytes lines place line behind
here-at bytes lines place text rest line behind are reached first =
    let texts = map (text_of bytes) lines in
    let long = length-map lines (text_of bytes) in
    let cut : drop place texts ≡ line ∷ texts_in behind = sym reached ∙ first in
    let within : place < length lines =
    omega (arith, long, length-drop place texts, ap length cut) in
    let inside : place < length texts = omega (arith, long, within) in
    let own : get_or texts place [] ∷ drop (suc place) texts ≡ line ∷ texts_in behind =
    sym (drop-cons texts place [] inside) ∙ cut in
    record {
      within = within;
      is = sym (head own)
          ∙ ap (λ t. t) (get_or_default texts place [] (text_of bytes no-line) inside)
          ∙ get_or-map (text_of bytes) lines place no-line (text_of bytes no-line) within;
      number = number-at 2 lines place no-line are.numbers within ∙ omega arith;
      next = sym (tail own) ∙ ap (λ n. drop n texts) (sym (add-one place));
    }
  where
    head : {x y : List ℕ} {xs ys : List (List ℕ)} → x ∷ xs ≡ y ∷ ys → x ≡ y
    head same = cc

    tail : {x y : List ℕ} {xs ys : List (List ℕ)} → x ∷ xs ≡ y ∷ ys → xs ≡ ys
    tail same = cc

-- at the end of the text all lines are gone
pub all-gone : (bytes : List ℕ) (lines : List Line) (place : ℕ) (rest : List ℕ)
    → texts_in rest ≡ drop place (map (text_of bytes) lines) → length rest ≡ 0
    → length lines ≤ place
all-gone bytes lines place rest reached none =
    omega (
      arith,
      length-map lines (text_of bytes),
      length-drop place (map (text_of bytes) lines),
      ap length (sym reached ∙ no-texts rest none),
    )

pub turn-here : (bytes : List ℕ) (lines : List Line) (place : ℕ) (text line behind own : List ℕ)
    → AreLinesOf bytes 2 lines text → Here bytes lines place line behind
    → is_passed_over line ≡ false → own ≡ entry_of_line line
    → Turn bytes lines place (entry_at (place + 1 + 1) own)
turn-here bytes lines place text line behind own are here has is =
    let number : (get_or lines place no-line).number ≡ place + 1 + 1 = here.number ∙ omega arith in
    subst (λ n. Turn bytes lines place (entry_at n own)) number
    (turn-at bytes lines place (rising 2 lines are.numbers) here.within here.is has is)

-- ---- a turn of the loop over the lines

-- the entries so far, none of which has a fault
pub record AreRead (affixes : Affixes) (limit : ℕ) (earlier : List Listed)
    (entries : List Entry) : Type 0 where
  pub same : entries ≡ map (entry_said affixes) earlier
  pub fine : own_faults affixes earlier ≡ []
  pub few : length entries ≤ limit
  pub words : All (λ entry. 0 < length entry.word) entries

count-read : {affixes : Affixes} {limit : ℕ} {earlier : List Listed} {entries : List Entry}
    → AreRead affixes limit earlier entries
    → length earlier ≡ length entries
count-read {affixes} {earlier = earlier} are =
    sym (ap length are.same ∙ length-map earlier (entry_said affixes))

-- an entry that is read has no fault
own-none : (affixes : Affixes) (entry : Listed) (made : Entry) → entry_read affixes entry ≡ Ok made
    → entry_faults affixes entry ≡ []
own-none affixes entry made read =
    let faults = entry_faults affixes entry in
    least-none dic_cause_number faults
    (read-fault (least_dic_fault faults) (entry_said affixes entry) made read)

-- a line without an entry
pub read-past : (bytes : List ℕ) (lines : List Line) (place : ℕ) {affixes : Affixes} {limit : ℕ}
    {entries : List Entry} {text : List ℕ}
    → place < length lines → text ≡ text_of bytes (get_or lines place no-line)
    → is_passed_over text ≡ true
    → AreRead affixes limit (listed bytes (take place lines)) entries
    → AreRead affixes limit (listed bytes (take (place + 1) lines)) entries
read-past bytes lines place {affixes} {limit} {entries} within is lacks are =
    let earlier = listed bytes (take place lines) in
    let same : listed bytes (take (place + 1) lines) ≡ earlier =
    more-lines bytes lines place within
    ∙ ap (λ o. earlier ++ cons_option o []) (line-says bytes (get_or lines place no-line) is lacks)
    ∙ append-nil earlier in
    subst (λ (ls : List Listed). AreRead affixes limit ls entries) (sym same) are

module _ {affixes : Affixes} {limit : ℕ} {bytes : List ℕ} {lines : List Line} {place : ℕ}
    {entry : Listed} {entries : List Entry} where
  -- a line with one that was read
  pub read-more : (made : Entry) (pushed : List Entry) → Turn bytes lines place entry
      → AreRead affixes limit (listed bytes (take place lines)) entries
      → entry_read affixes entry ≡ Ok made → 0 < length made.word
      → length entries ≢ limit → pushed ≡ entries ++ made ∷ []
      → AreRead affixes limit (listed bytes (take (place + 1) lines)) pushed
  read-more made pushed turn are read word room grown =
      let earlier = listed bytes (take place lines) in
      let said = read-said (least_dic_fault (entry_faults affixes entry)) (entry_said affixes entry) made
      read in
      let next : AreRead affixes limit (earlier ++ entry ∷ []) (entries ++ made ∷ []) = record {
        same = ap (λ es. es ++ made ∷ []) are.same
            ∙ ap (λ e. map (entry_said affixes) earlier ++ e ∷ []) said
            ∙ sym (map-append (entry_said affixes) earlier (entry ∷ []));
        fine = own-seam affixes earlier entry [] are.fine
            ∙ ap (λ faults. faults ++ []) (own-none affixes entry made read);
        few = omega (arith, are.few, room, length-append entries (made ∷ []));
        words = All-push (λ (e : Entry). 0 < length e.word) entries made are.words word;
      } in
      subst (λ (ls : List Listed). AreRead affixes limit ls pushed) (sym turn.next)
      (subst (λ (es : List Entry). AreRead affixes limit (earlier ++ entry ∷ []) es) (sym grown)
      next)

  -- a line with one that has a fault
  pub told-own : (fault : DicFault) → Turn bytes lines place entry
      → AreRead affixes limit (listed bytes (take place lines)) entries
      → IsTold (entry_read affixes entry) fault
      → IsTold (entries_read affixes limit (listed bytes lines)) fault
  unfolding entries_read
  told-own NoMemory turn are told = tt
  told-own (At number why) turn are told =
      let earlier = listed bytes (take place lines) in
      let fault = fault_at number why in
      let few : length earlier ≤ limit = omega (arith, are.few, count-read are) in
      let own = told-fault (least_dic_fault (entry_faults affixes entry)) (entry_said affixes entry) fault
      told in
      ap (λ o. unless_fault o (map (entry_said affixes) (listed bytes lines)))
      (ap (λ all. least_dic_fault (entries_faults affixes limit all)) turn.whole
      ∙ own-fault affixes limit earlier entry (listed bytes (drop (place + 1) lines)) fault are.fine
      few turn.behind own)

  -- a line with one too many
  pub told-many : (made : Entry) → Turn bytes lines place entry
      → AreRead affixes limit (listed bytes (take place lines)) entries
      → entry_read affixes entry ≡ Ok made → length entries ≡ limit
      → entries_read affixes limit (listed bytes lines) ≡ Err (fault_at entry.number TooMany)
  unfolding entries_read
  told-many made turn are read full =
      let earlier = listed bytes (take place lines) in
      let more = listed bytes (drop (place + 1) lines) in
      ap (λ o. unless_fault o (map (entry_said affixes) (listed bytes lines)))
      (ap (λ all. least_dic_fault (entries_faults affixes limit all)) turn.whole
      ∙ many-fault affixes limit earlier entry more are.fine (count-read are ∙ full) turn.behind
      (own-none affixes entry made read))

-- at the end
pub read-all : (affixes : Affixes) (limit : ℕ) (bytes : List ℕ) (lines : List Line) (place : ℕ)
    (entries : List Entry) → length lines ≤ place
    → AreRead affixes limit (listed bytes (take place lines)) entries
    → entries_read affixes limit (listed bytes lines) ≡ Ok entries
unfolding entries_read
read-all affixes limit bytes lines place entries past are =
    let all : listed bytes (take place lines) ≡ listed bytes lines =
    ap (listed bytes) (take_all place lines past) in
    let now : AreRead affixes limit (listed bytes lines) entries =
    subst (λ (ls : List Listed). AreRead affixes limit ls entries) all are in
    ap (λ o. unless_fault o (map (entry_said affixes) (listed bytes lines)))
    (no-fault affixes limit (listed bytes lines) now.fine (omega (arith, now.few, count-read now)))
    ∙ ap Ok (sym now.same)
