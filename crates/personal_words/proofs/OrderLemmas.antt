-- The first fault of items whose lines rise.
use Rattle.std.proofs.Common.{◌≡◌, ℕ, ◌+◌, ◌<◌, ◌≤◌, Bool, true, false, cond, List, [], ◌∷◌, ◌++◌}
use Rattle.std.proofs.Common.{length, map, drop, Some, None, refl, sym, ap, ◌∙◌, subst, arith}
use Rattle.std.proofs.Common.{get_or, suc, zero, All, length-drop}
use Rattle.std.specs.List.{cons_option, slice_get, flat_map, range_with_len, AllByRecursion}
use Rattle.std.specs.List.{AllPairs}
use Rattle.std.proofs.lemmas.Grind.{flat_map-append}
use Rattle.std.proofs.lemmas.List.{get_or-drop, get_or-map, get_or_default}
use Rattle.std.proofs.lemmas.List.FromFn.{get_or-range_with_len}
use Rattle.std.proofs.lemmas.Option.{slice_get_past}
use Rattle.mark_types.specs.text_lines.declared.found.Line.{Line}
use Rattle.mark_types.specs.text_lines.Lines.{text_of}
use Rattle.mark_types.specs.spell_types.declared.Affixes.{Affixes}
use Rattle.line_faults.specs.Faults.{is_before, sooner, fault_at}
use Rattle.line_faults.specs.Laws.{NoneBefore, BeforeEach, lower-line, higher-line, least_append}
use Rattle.line_faults.specs.Laws.{each-least, none-before-stays, before-each-wins}
use Rattle.mark_types.specs.lists.Laws.{each-weaker, each-flat_map}
use Rattle.personal_words.specs.declared.faults.OwnWhy.TheVariants.{EmptyWord, TooMany}
use Rattle.personal_words.specs.Items.{is_blank_line, item_of, lacks_text}
use Rattle.personal_words.specs.Faults.{OwnFaultAtLine, ListedItem, listed_at, listed_items}
use Rattle.personal_words.specs.Faults.{own_cause_number, least_own_fault}
use Rattle.personal_words.specs.Faults.{item_faults, item_too_many, too_many_items_faults}
use Rattle.personal_words.specs.Faults.{items_faults}
use Rattle.personal_words.proofs.FaultLemmas.{too-many-last}

-- ---- the faults of one item are all at its line

abbrev pub IsAtLine : ℕ → OwnFaultAtLine → Type 0
IsAtLine number fault = fault.line ≡ number

empty-at : (number : ℕ) (empty : Bool)
    → AllByRecursion (IsAtLine number) (cond empty (fault_at number EmptyWord ∷ []) [])
empty-at number true = (refl, tt)
empty-at number false = tt

faults-at : (affixes : Affixes) (found : ListedItem)
    → AllByRecursion (IsAtLine found.number) (item_faults affixes found)
faults-at affixes found = empty-at found.number (lacks_text (item_of affixes found.text))

-- ---- the faults of items at higher lines

abbrev pub own_faults : Affixes → List ListedItem → List OwnFaultAtLine
own_faults affixes items = flat_map (item_faults affixes) items

abbrev pub AreBehind : ℕ → List ListedItem → Type 0
AreBehind number items = AllByRecursion (λ (found : ListedItem). number < found.number) items

-- what holds of each fault at a higher line holds of the faults of items at higher lines
own-behind : (affixes : Affixes) (P : OwnFaultAtLine → Type 0) (number : ℕ)
    → ((fault : OwnFaultAtLine) → number < fault.line → P fault)
    → (items : List ListedItem) → AreBehind number items
    → AllByRecursion P (own_faults affixes items)
own-behind affixes P number holds items behind =
    each-flat_map P (item_faults affixes) items
    (each-weaker (λ (found : ListedItem). number < found.number)
    (λ found. AllByRecursion P (item_faults affixes found)) own items behind)
  where
    own : (found : ListedItem) → number < found.number
        → AllByRecursion P (item_faults affixes found)
    own found above =
        each-weaker (IsAtLine found.number) P
        (λ fault same. holds fault (omega (arith, same, above)))
        (item_faults affixes found) (faults-at affixes found)

many-behind : (P : OwnFaultAtLine → Type 0) (number : ℕ)
    → ((fault : OwnFaultAtLine) → number < fault.line → P fault)
    → (limit : ℕ) (items : List ListedItem) → AreBehind number items
    → AllByRecursion P (too_many_items_faults limit items)
many-behind P number holds limit [] behind = tt
many-behind P number holds zero (found ∷ more) behind =
    (holds (fault_at found.number TooMany) behind.0, tt)
many-behind P number holds (suc limit) (found ∷ more) behind =
    many-behind P number holds limit more behind.1

-- where earlier items are not too many, the first that is one too many is this one or one behind
-- it
many-seam : (P : OwnFaultAtLine → Type 0) (earlier : List ListedItem) (found : ListedItem) (more : List ListedItem)
    (limit : ℕ) → length earlier ≤ limit
    → P (fault_at found.number TooMany)
    → ((left : ℕ) → AllByRecursion P (too_many_items_faults left more))
    → AllByRecursion P (too_many_items_faults limit (earlier ++ found ∷ more))
many-seam P [] found more zero few here later = (here, tt)
many-seam P [] found more (suc limit) few here later = later limit
many-seam P (first ∷ earlier) found more zero few here later = absurd (omega (arith, few))
many-seam P (first ∷ earlier) found more (suc limit) few here later =
    many-seam P earlier found more limit (omega (arith, few)) here later

-- ---- the first fault of items

-- where earlier items have no fault, those of the later ones are left
pub own-seam : (affixes : Affixes) (earlier : List ListedItem) (found : ListedItem) (more : List ListedItem)
    → own_faults affixes earlier ≡ []
    → own_faults affixes (earlier ++ found ∷ more) ≡ item_faults affixes found
    ++ own_faults affixes more
own-seam affixes earlier found more fine =
    flat_map-append (item_faults affixes) earlier (found ∷ more)
    ∙ ap (λ faults. faults ++ (item_faults affixes found ++ own_faults affixes more)) fine

pub own-fault : (affixes : Affixes) (limit : ℕ) (earlier : List ListedItem) (found : ListedItem)
    (more : List ListedItem) (fault : OwnFaultAtLine)
    → own_faults affixes earlier ≡ [] → length earlier ≤ limit → AreBehind found.number more
    → least_own_fault (item_faults affixes found) ≡ Some fault
    → least_own_fault (items_faults affixes limit (earlier ++ found ∷ more)) ≡ Some fault
own-fault affixes limit earlier found more fault fine few behind own =
    let all = earlier ++ found ∷ more in
    let here : fault.line ≡ found.number =
    each-least own_cause_number (IsAtLine found.number) (item_faults affixes found) fault
    (faults-at affixes found) own in
    let holds =
    λ (other : OwnFaultAtLine) (above : found.number < other.line). higher-line own_cause_number fault
    other (omega (arith, here, above)) in
    let later : NoneBefore own_cause_number fault (own_faults affixes more) =
    own-behind affixes (λ other. is_before own_cause_number other fault ≡ false) found.number
    holds more behind in
    let many : NoneBefore own_cause_number fault (too_many_items_faults limit all) =
    many-seam (λ other. is_before own_cause_number other fault ≡ false) earlier found more limit few
    (too-many-last fault found.number here)
    (λ left. many-behind (λ other. is_before own_cause_number other fault ≡ false) found.number holds
    left more behind) in
    let first : least_own_fault (own_faults affixes all) ≡ Some fault =
    ap least_own_fault (own-seam affixes earlier found more fine)
    ∙ least_append own_cause_number (item_faults affixes found) (own_faults affixes more)
    ∙ ap (λ o. sooner own_cause_number o (least_own_fault (own_faults affixes more))) own
    ∙ none-before-stays own_cause_number fault (own_faults affixes more) later in
    least_append own_cause_number (own_faults affixes all) (too_many_items_faults limit all)
    ∙ ap (λ o. sooner own_cause_number o (least_own_fault (too_many_items_faults limit all))) first
    ∙ none-before-stays own_cause_number fault (too_many_items_faults limit all) many

slice_get-seam : (items : List ListedItem) (found : ListedItem) (more : List ListedItem)
    → slice_get (items ++ found ∷ more) (length items) ≡ Some found
slice_get-seam [] found more = refl
slice_get-seam (first ∷ items) found more = slice_get-seam items found more

pub many-fault : (affixes : Affixes) (limit : ℕ) (earlier : List ListedItem) (found : ListedItem)
    (more : List ListedItem)
    → own_faults affixes earlier ≡ [] → length earlier ≡ limit → AreBehind found.number more
    → item_faults affixes found ≡ []
    → least_own_fault (items_faults affixes limit (earlier ++ found ∷ more))
    ≡ Some (fault_at found.number TooMany)
many-fault affixes limit earlier found more fine full behind own =
    let all = earlier ++ found ∷ more in
    let fault = fault_at found.number TooMany in
    let later : BeforeEach own_cause_number fault (own_faults affixes more) =
    own-behind affixes (λ other. is_before own_cause_number fault other ≡ true) found.number
    (λ other above. lower-line own_cause_number fault other above) more behind in
    let left : own_faults affixes all ≡ own_faults affixes more =
    own-seam affixes earlier found more fine
    ∙ ap (λ faults. faults ++ own_faults affixes more) own in
    let many : too_many_items_faults limit all ≡ fault ∷ [] =
    ap (λ n. too_many_items_faults n all) (sym full)
    ∙ ap item_too_many (slice_get-seam earlier found more) in
    least_append own_cause_number (own_faults affixes all) (too_many_items_faults limit all)
    ∙ ap (λ faults. sooner own_cause_number (least_own_fault faults) (least_own_fault (too_many_items_faults limit all))) left
    ∙ ap (λ faults. sooner own_cause_number (least_own_fault (own_faults affixes more)) (least_own_fault faults)) many
    ∙ before-each-wins own_cause_number fault (own_faults affixes more) later

pub no-fault : (affixes : Affixes) (limit : ℕ) (items : List ListedItem)
    → own_faults affixes items ≡ [] → length items ≤ limit
    → least_own_fault (items_faults affixes limit items) ≡ None
no-fault affixes limit items fine few =
    ap (λ faults. least_own_fault (faults ++ too_many_items_faults limit items)) fine
    ∙ ap (λ o. least_own_fault (item_too_many o)) (slice_get_past items limit few)

-- ---- lines with rising numbers

abbrev pub AreRising : List Line → Type 0
AreRising lines = AllPairs (λ line later. line.number < later.number) lines

abbrev pub AreNumbered : List Line → Type 0
AreNumbered lines = map (λ line. line.number) lines ≡ range_with_len 1 (length lines)

abbrev LinesBehind : ℕ → List Line → Type 0
LinesBehind number lines = All (λ (line : Line). number < line.number) lines

pub listed-behind : (bytes : List ℕ) (number : ℕ) (lines : List Line) → LinesBehind number lines
    → AreBehind number (listed_items bytes lines)
listed-behind bytes number [] behind = tt
listed-behind bytes number (line ∷ more) behind =
    by-test (is_blank_line (text_of bytes line))
    (listed-behind bytes number more (λ k d within. behind (suc k) d (omega (arith, within))))
  where
    by-test : (b : Bool) → AreBehind number (listed_items bytes more)
        → AreBehind number
        (cons_option (cond b None (Some (listed_at line.number (text_of bytes line))))
        (listed_items bytes more))
    by-test true rest = rest
    by-test false rest = (behind 0 line (omega arith), rest)

pub lines-behind : (lines : List Line) (place : ℕ) (d : Line) → AreRising lines
    → place < length lines
    → LinesBehind (get_or lines place d).number (drop (place + 1) lines)
lines-behind lines place d rising within k e inside =
    let long = length-drop (place + 1) lines in
    subst (λ (line : Line). (get_or lines place d).number < line.number)
    (sym (get_or-drop (place + 1) lines k e
    ∙ get_or_default lines (place + 1 + k) e d (omega (arith, long, inside))))
    (rising place (place + 1 + k) d (omega arith) (omega (arith, long, inside)))

number-at : (lines : List Line) (place : ℕ) (d : Line) → AreNumbered lines → place < length lines
    → (get_or lines place d).number ≡ 1 + place
number-at lines place d is within =
    sym (get_or-map (λ (line : Line). line.number) lines place d 0 within)
    ∙ ap (λ ns. get_or ns place 0) is
    ∙ get_or-range_with_len 1 (length lines) place 0 within

-- lines that are numbered one by one have rising numbers
pub rising : (lines : List Line) → AreNumbered lines → AreRising lines
rising lines is i j d lower within =
    omega (
      arith,
      lower,
      number-at lines i d is (omega (arith, lower, within)),
      number-at lines j d is within,
    )
