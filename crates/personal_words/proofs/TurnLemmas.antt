-- A turn of the loop over the lines with items.
use Rattle.std.proofs.Common.{◌≡◌, ◌≢◌, ℕ, ◌+◌, ◌<◌, ◌≤◌, Bool, true, false, cond, List, [], ◌∷◌}
use Rattle.std.proofs.Common.{◌++◌, length, map, take, drop, Some, None, Ok, Err, All, sym, ap, ◌∙◌}
use Rattle.std.proofs.Common.{subst, arith, get_or, add-one, length-append}
use Rattle.std.specs.List.{cons_option}
use Rattle.std.proofs.lemmas.List.{take_more, take-append-drop, take_all, append-nil, length-map}
use Rattle.std.proofs.lemmas.List.{map-append}
use Rattle.std.proofs.lemmas.List.Elements.{filter_map-append, All-push}
use Rattle.std.proofs.Math.Seq.{drop-cons}
use Rattle.mark_types.specs.text_lines.declared.found.Line.{Line}
use Rattle.mark_types.specs.text_lines.Lines.{text_of}
use Rattle.mark_types.specs.spell_types.declared.Affixes.{Affixes}
use Rattle.line_faults.specs.Faults.{fault_at, unless_fault}
use Rattle.line_faults.specs.Laws.{least-none}
use Rattle.personal_words.specs.declared.faults.OwnFault.{OwnFault}
use Rattle.personal_words.specs.declared.faults.OwnFault.TheVariants.{At, NoMemory}
use Rattle.personal_words.specs.declared.faults.OwnWhy.TheVariants.{TooMany}
use Rattle.personal_words.specs.declared.items.OwnItem.{OwnItem}
use Rattle.personal_words.specs.Items.{is_blank_line}
use Rattle.personal_words.specs.Faults.{ListedItem, listed_at, item_listed_in, listed_items}
use Rattle.personal_words.specs.Faults.{own_cause_number}
use Rattle.personal_words.specs.Faults.{least_own_fault, item_faults, items_faults, item_at}
use Rattle.personal_words.specs.Faults.{item_read}
use Rattle.personal_words.specs.Faults.{items_read, IsOwnFaultTold}
use Rattle.personal_words.proofs.FaultLemmas.{read-fault, read-said, told-fault}
use Rattle.personal_words.proofs.OrderLemmas.{own_faults, AreBehind, AreRising, own-seam, own-fault}
use Rattle.personal_words.proofs.OrderLemmas.{many-fault, no-fault, listed-behind, lines-behind}

abbrev pub no-line : Line
no-line = record { number = 0; from = 0; to = 0 }

-- ---- the items of lines

split-lines : (bytes : List ℕ) (lines : List Line) (place : ℕ) → place < length lines
    → listed_items bytes lines ≡ listed_items bytes (take place lines)
    ++ cons_option (item_listed_in bytes (get_or lines place no-line))
    (listed_items bytes (drop (place + 1) lines))
split-lines bytes lines place within =
    let line = get_or lines place no-line in
    let cut : drop place lines ≡ line ∷ drop (place + 1) lines =
    drop-cons lines place no-line within ∙ ap (λ n. line ∷ drop n lines) (sym (add-one place)) in
    ap (listed_items bytes)
    (sym (take-append-drop place lines) ∙ ap (λ rest. take place lines ++ rest) cut)
    ∙ filter_map-append (item_listed_in bytes) (take place lines) (line ∷ drop (place + 1) lines)

more-lines : (bytes : List ℕ) (lines : List Line) (place : ℕ) → place < length lines
    → listed_items bytes (take (place + 1) lines) ≡ listed_items bytes (take place lines)
    ++ cons_option (item_listed_in bytes (get_or lines place no-line)) []
more-lines bytes lines place within =
    ap (listed_items bytes) (take_more lines place no-line within)
    ∙ filter_map-append (item_listed_in bytes) (take place lines) (get_or lines place no-line ∷ [])

-- what a line has, by whether it is passed over
line-says : (bytes : List ℕ) (line : Line) {text : List ℕ} {passed : Bool}
    → text ≡ text_of bytes line → is_blank_line text ≡ passed
    → item_listed_in bytes line ≡ cond passed None (Some (listed_at line.number text))
line-says bytes line {text} is tested =
    ap (λ t. cond (is_blank_line t) None (Some (listed_at line.number t))) (sym is)
    ∙ ap (λ b. cond b None (Some (listed_at line.number text))) tested

-- a place of the loop at which an item stands
pub record Turn (bytes : List ℕ) (lines : List Line) (place : ℕ) (found : ListedItem) : Type 0 where
  pub next : listed_items bytes (take (place + 1) lines) ≡ listed_items bytes (take place lines) ++ found ∷ []
  pub whole : listed_items bytes lines ≡ listed_items bytes (take place lines) ++ found
      ∷ listed_items bytes (drop (place + 1) lines)
  pub behind : AreBehind found.number (listed_items bytes (drop (place + 1) lines))

pub turn-at : (bytes : List ℕ) (lines : List Line) (place : ℕ) {text : List ℕ} → AreRising lines
    → place < length lines
    → text ≡ text_of bytes (get_or lines place no-line) → is_blank_line text ≡ false
    → Turn bytes lines place (listed_at (get_or lines place no-line).number text)
turn-at bytes lines place {text} rises within is has =
    let line = get_or lines place no-line in
    let earlier = listed_items bytes (take place lines) in
    let more = listed_items bytes (drop (place + 1) lines) in
    let made : item_listed_in bytes line ≡ Some (listed_at line.number text) =
    line-says bytes line is has in
    record {
      next = more-lines bytes lines place within ∙ ap (λ o. earlier ++ cons_option o []) made;
      whole = split-lines bytes lines place within ∙ ap (λ o. earlier ++ cons_option o more) made;
      behind = listed-behind bytes line.number (drop (place + 1) lines)
          (lines-behind lines place no-line rises within);
    }

-- ---- a turn of the loop over the lines

-- the items so far, none of which has a fault
pub record AreRead (affixes : Affixes) (limit : ℕ) (earlier : List ListedItem)
    (items : List OwnItem) : Type 0 where
  pub same : items ≡ map (item_at affixes) earlier
  pub fine : own_faults affixes earlier ≡ []
  pub few : length items ≤ limit
  pub words : All (λ item. 0 < length item.word) items

count-read : {affixes : Affixes} {limit : ℕ} {earlier : List ListedItem} {items : List OwnItem}
    → AreRead affixes limit earlier items
    → length earlier ≡ length items
count-read {affixes} {earlier = earlier} are =
    sym (ap length are.same ∙ length-map earlier (item_at affixes))

-- an item that is read has no fault
own-none : (affixes : Affixes) (found : ListedItem) (made : OwnItem)
    → item_read affixes found ≡ Ok made
    → item_faults affixes found ≡ []
own-none affixes found made read =
    let faults = item_faults affixes found in
    least-none own_cause_number faults
    (read-fault (least_own_fault faults) (item_at affixes found) made read)

-- a line without an item
pub read-past : (bytes : List ℕ) (lines : List Line) (place : ℕ) {affixes : Affixes} {limit : ℕ}
    {items : List OwnItem} {text : List ℕ}
    → place < length lines → text ≡ text_of bytes (get_or lines place no-line)
    → is_blank_line text ≡ true
    → AreRead affixes limit (listed_items bytes (take place lines)) items
    → AreRead affixes limit (listed_items bytes (take (place + 1) lines)) items
read-past bytes lines place {affixes} {limit} {items} within is lacks are =
    let earlier = listed_items bytes (take place lines) in
    let same : listed_items bytes (take (place + 1) lines) ≡ earlier =
    more-lines bytes lines place within
    ∙ ap (λ o. earlier ++ cons_option o []) (line-says bytes (get_or lines place no-line) is lacks)
    ∙ append-nil earlier in
    subst (λ (ls : List ListedItem). AreRead affixes limit ls items) (sym same) are

module _ {affixes : Affixes} {limit : ℕ} {bytes : List ℕ} {lines : List Line} {place : ℕ}
    {found : ListedItem} {items : List OwnItem} where
  -- a line with one that was read
  pub read-more : (made : OwnItem) (pushed : List OwnItem) → Turn bytes lines place found
      → AreRead affixes limit (listed_items bytes (take place lines)) items
      → item_read affixes found ≡ Ok made → 0 < length made.word
      → length items ≢ limit → pushed ≡ items ++ made ∷ []
      → AreRead affixes limit (listed_items bytes (take (place + 1) lines)) pushed
  read-more made pushed turn are read word room grown =
      let earlier = listed_items bytes (take place lines) in
      let said = read-said (least_own_fault (item_faults affixes found)) (item_at affixes found) made
      read in
      let next : AreRead affixes limit (earlier ++ found ∷ []) (items ++ made ∷ []) = record {
        same = ap (λ es. es ++ made ∷ []) are.same
            ∙ ap (λ e. map (item_at affixes) earlier ++ e ∷ []) said
            ∙ sym (map-append (item_at affixes) earlier (found ∷ []));
        fine = own-seam affixes earlier found [] are.fine
            ∙ ap (λ faults. faults ++ []) (own-none affixes found made read);
        few = omega (arith, are.few, room, length-append items (made ∷ []));
        words = All-push (λ (e : OwnItem). 0 < length e.word) items made are.words word;
      } in
      subst (λ (ls : List ListedItem). AreRead affixes limit ls pushed) (sym turn.next)
      (subst (λ (es : List OwnItem). AreRead affixes limit (earlier ++ found ∷ []) es) (sym grown)
      next)

  -- a line with one that has a fault
  pub told-own : (fault : OwnFault) → Turn bytes lines place found
      → AreRead affixes limit (listed_items bytes (take place lines)) items
      → IsOwnFaultTold (item_read affixes found) fault
      → IsOwnFaultTold (items_read affixes limit (listed_items bytes lines)) fault
  unfolding items_read
  told-own NoMemory turn are told = tt
  told-own (At number why) turn are told =
      let earlier = listed_items bytes (take place lines) in
      let fault = fault_at number why in
      let few : length earlier ≤ limit = omega (arith, are.few, count-read are) in
      let own = told-fault (least_own_fault (item_faults affixes found)) (item_at affixes found) fault
      told in
      ap (λ o. unless_fault o (map (item_at affixes) (listed_items bytes lines)))
      (ap (λ all. least_own_fault (items_faults affixes limit all)) turn.whole
      ∙ own-fault affixes limit earlier found (listed_items bytes (drop (place + 1) lines)) fault are.fine
      few turn.behind own)

  -- a line with one too many
  pub told-many : (made : OwnItem) → Turn bytes lines place found
      → AreRead affixes limit (listed_items bytes (take place lines)) items
      → item_read affixes found ≡ Ok made → length items ≡ limit
      → items_read affixes limit (listed_items bytes lines) ≡ Err (fault_at found.number TooMany)
  unfolding items_read
  told-many made turn are read full =
      let earlier = listed_items bytes (take place lines) in
      let more = listed_items bytes (drop (place + 1) lines) in
      ap (λ o. unless_fault o (map (item_at affixes) (listed_items bytes lines)))
      (ap (λ all. least_own_fault (items_faults affixes limit all)) turn.whole
      ∙ many-fault affixes limit earlier found more are.fine (count-read are ∙ full) turn.behind
      (own-none affixes found made read))

-- at the end
pub read-all : (affixes : Affixes) (limit : ℕ) (bytes : List ℕ) (lines : List Line) (place : ℕ)
    (items : List OwnItem) → length lines ≤ place
    → AreRead affixes limit (listed_items bytes (take place lines)) items
    → items_read affixes limit (listed_items bytes lines) ≡ Ok items
unfolding items_read
read-all affixes limit bytes lines place items past are =
    let all : listed_items bytes (take place lines) ≡ listed_items bytes lines =
    ap (listed_items bytes) (take_all place lines past) in
    let now : AreRead affixes limit (listed_items bytes lines) items =
    subst (λ (ls : List ListedItem). AreRead affixes limit ls items) all are in
    ap (λ o. unless_fault o (map (item_at affixes) (listed_items bytes lines)))
    (no-fault affixes limit (listed_items bytes lines) now.fine (omega (arith, now.few, count-read now)))
    ∙ ap Ok (sym now.same)
