-- The first fault of entries whose lines rise.
use Rattle.std.proofs.Common.{◌≡◌, ℕ, ◌+◌, ◌<◌, ◌≤◌, Bool, true, false, cond, List, [], ◌∷◌, ◌++◌}
use Rattle.std.proofs.Common.{length, map, drop, Some, None, refl, sym, ap, ◌∙◌, subst, arith}
use Rattle.std.proofs.Common.{get_or, suc, zero, All, length-drop}
use Rattle.std.specs.List.{cons_option, slice_get, flat_map, range_with_len, AllByRecursion}
use Rattle.std.specs.List.{AllPairs}
use Rattle.std.proofs.lemmas.Grind.{flat_map-append}
use Rattle.std.proofs.lemmas.List.{get_or-drop, get_or-map, get_or_default}
use Rattle.std.proofs.lemmas.List.FromFn.{get_or-range_with_len}
use Rattle.std.proofs.lemmas.Option.{slice_get_past}
use Rattle.text_lines.specs.declared.found.Line.{Line}
use Rattle.text_lines.specs.Lines.{text_of}
use Rattle.spell_types.specs.declared.Affixes.{Affixes}
use Rattle.dic_reader.specs.declared.faults.DicWhy.TheVariants.{TooMany}
use Rattle.dic_reader.specs.Entries.{Listed, entry_at, entry_of_line, is_passed_over, listed}
use Rattle.line_faults.specs.Faults.{is_before, sooner, fault_at}
use Rattle.line_faults.specs.Laws.{NoneBefore, BeforeEach, lower-line, higher-line, least_append}
use Rattle.line_faults.specs.Laws.{each-least, none-before-stays, before-each-wins}
use Rattle.text_lines.specs.lists.Laws.{each-append, each-weaker, each-flat_map}
use Rattle.dic_reader.specs.Faults.{DicFaultAtLine, dic_cause_number, least_dic_fault, entry_faults}
use Rattle.dic_reader.specs.Faults.{too_many}
use Rattle.dic_reader.specs.Faults.{many_faults, entries_faults}
use Rattle.dic_reader.proofs.FaultLemmas.{too-many-last}
use Rattle.dic_reader.proofs.EntryLemmas.{IsAtLine, faults-at}

-- ---- the faults of entries at higher lines

abbrev pub own_faults : Affixes → List Listed → List DicFaultAtLine
own_faults affixes entries = flat_map (entry_faults affixes) entries

abbrev pub AreBehind : ℕ → List Listed → Type 0
AreBehind number entries = AllByRecursion (λ (entry : Listed). number < entry.number) entries

-- what holds of each fault at a higher line holds of the faults of entries at higher lines
own-behind : (affixes : Affixes) (P : DicFaultAtLine → Type 0) (number : ℕ)
    → ((fault : DicFaultAtLine) → number < fault.line → P fault)
    → (entries : List Listed) → AreBehind number entries
    → AllByRecursion P (own_faults affixes entries)
own-behind affixes P number holds entries behind =
    each-flat_map P (entry_faults affixes) entries
    (each-weaker (λ (entry : Listed). number < entry.number)
    (λ entry. AllByRecursion P (entry_faults affixes entry)) own entries behind)
  where
    own : (entry : Listed) → number < entry.number → AllByRecursion P (entry_faults affixes entry)
    own entry above =
        each-weaker (IsAtLine entry.number) P
        (λ fault same. holds fault (omega (arith, same, above)))
        (entry_faults affixes entry) (faults-at affixes entry)

many-behind : (P : DicFaultAtLine → Type 0) (number : ℕ)
    → ((fault : DicFaultAtLine) → number < fault.line → P fault)
    → (limit : ℕ) (entries : List Listed) → AreBehind number entries
    → AllByRecursion P (many_faults limit entries)
many-behind P number holds limit [] behind = tt
many-behind P number holds zero (entry ∷ more) behind =
    (holds (fault_at entry.number TooMany) behind.0, tt)
many-behind P number holds (suc limit) (entry ∷ more) behind =
    many-behind P number holds limit more behind.1

-- where earlier entries are not too many, the first that is one too many is this one or one behind
-- it
many-seam : (P : DicFaultAtLine → Type 0) (earlier : List Listed) (entry : Listed) (more : List Listed)
    (limit : ℕ) → length earlier ≤ limit
    → P (fault_at entry.number TooMany) → ((left : ℕ) → AllByRecursion P (many_faults left more))
    → AllByRecursion P (many_faults limit (earlier ++ entry ∷ more))
many-seam P [] entry more zero few here later = (here, tt)
many-seam P [] entry more (suc limit) few here later = later limit
many-seam P (first ∷ earlier) entry more zero few here later = absurd (omega (arith, few))
many-seam P (first ∷ earlier) entry more (suc limit) few here later =
    many-seam P earlier entry more limit (omega (arith, few)) here later

-- ---- the first fault of entries

-- where earlier entries have no fault, those of the later ones are left
pub own-seam : (affixes : Affixes) (earlier : List Listed) (entry : Listed) (more : List Listed)
    → own_faults affixes earlier ≡ []
    → own_faults affixes (earlier ++ entry ∷ more) ≡ entry_faults affixes entry
    ++ own_faults affixes more
own-seam affixes earlier entry more fine =
    flat_map-append (entry_faults affixes) earlier (entry ∷ more)
    ∙ ap (λ faults. faults ++ (entry_faults affixes entry ++ own_faults affixes more)) fine

pub own-fault : (affixes : Affixes) (limit : ℕ) (earlier : List Listed) (entry : Listed)
    (more : List Listed) (fault : DicFaultAtLine)
    → own_faults affixes earlier ≡ [] → length earlier ≤ limit → AreBehind entry.number more
    → least_dic_fault (entry_faults affixes entry) ≡ Some fault
    → least_dic_fault (entries_faults affixes limit (earlier ++ entry ∷ more)) ≡ Some fault
own-fault affixes limit earlier entry more fault fine few behind own =
    let all = earlier ++ entry ∷ more in
    let here : fault.line ≡ entry.number =
    each-least dic_cause_number (IsAtLine entry.number) (entry_faults affixes entry) fault
    (faults-at affixes entry) own in
    let holds =
    λ (other : DicFaultAtLine) (above : entry.number < other.line). higher-line dic_cause_number fault
    other (omega (arith, here, above)) in
    let later : NoneBefore dic_cause_number fault (own_faults affixes more) =
    own-behind affixes (λ other. is_before dic_cause_number other fault ≡ false) entry.number
    holds more behind in
    let many : NoneBefore dic_cause_number fault (many_faults limit all) =
    many-seam (λ other. is_before dic_cause_number other fault ≡ false) earlier entry more limit few
    (too-many-last fault entry.number here)
    (λ left. many-behind (λ other. is_before dic_cause_number other fault ≡ false) entry.number holds
    left more behind) in
    let first : least_dic_fault (own_faults affixes all) ≡ Some fault =
    ap least_dic_fault (own-seam affixes earlier entry more fine)
    ∙ least_append dic_cause_number (entry_faults affixes entry) (own_faults affixes more)
    ∙ ap (λ o. sooner dic_cause_number o (least_dic_fault (own_faults affixes more))) own
    ∙ none-before-stays dic_cause_number fault (own_faults affixes more) later in
    least_append dic_cause_number (own_faults affixes all) (many_faults limit all)
    ∙ ap (λ o. sooner dic_cause_number o (least_dic_fault (many_faults limit all))) first
    ∙ none-before-stays dic_cause_number fault (many_faults limit all) many

slice_get-seam : (entries : List Listed) (entry : Listed) (more : List Listed)
    → slice_get (entries ++ entry ∷ more) (length entries) ≡ Some entry
slice_get-seam [] entry more = refl
slice_get-seam (first ∷ entries) entry more = slice_get-seam entries entry more

pub many-fault : (affixes : Affixes) (limit : ℕ) (earlier : List Listed) (entry : Listed)
    (more : List Listed)
    → own_faults affixes earlier ≡ [] → length earlier ≡ limit → AreBehind entry.number more
    → entry_faults affixes entry ≡ []
    → least_dic_fault (entries_faults affixes limit (earlier ++ entry ∷ more))
    ≡ Some (fault_at entry.number TooMany)
many-fault affixes limit earlier entry more fine full behind own =
    let all = earlier ++ entry ∷ more in
    let fault = fault_at entry.number TooMany in
    let later : BeforeEach dic_cause_number fault (own_faults affixes more) =
    own-behind affixes (λ other. is_before dic_cause_number fault other ≡ true) entry.number
    (λ other above. lower-line dic_cause_number fault other above) more behind in
    let left : own_faults affixes all ≡ own_faults affixes more =
    own-seam affixes earlier entry more fine
    ∙ ap (λ faults. faults ++ own_faults affixes more) own in
    let many : many_faults limit all ≡ fault ∷ [] =
    ap (λ n. many_faults n all) (sym full)
    ∙ ap too_many (slice_get-seam earlier entry more) in
    least_append dic_cause_number (own_faults affixes all) (many_faults limit all)
    ∙ ap (λ faults. sooner dic_cause_number (least_dic_fault faults) (least_dic_fault (many_faults limit all))) left
    ∙ ap (λ faults. sooner dic_cause_number (least_dic_fault (own_faults affixes more)) (least_dic_fault faults)) many
    ∙ before-each-wins dic_cause_number fault (own_faults affixes more) later

pub no-fault : (affixes : Affixes) (limit : ℕ) (entries : List Listed)
    → own_faults affixes entries ≡ [] → length entries ≤ limit
    → least_dic_fault (entries_faults affixes limit entries) ≡ None
no-fault affixes limit entries fine few =
    ap (λ faults. least_dic_fault (faults ++ many_faults limit entries)) fine
    ∙ ap (λ o. least_dic_fault (too_many o)) (slice_get_past entries limit few)

-- ---- lines with rising numbers

abbrev pub AreRising : List Line → Type 0
AreRising lines = AllPairs (λ line later. line.number < later.number) lines

abbrev pub AreNumbered : ℕ → List Line → Type 0
AreNumbered first lines =
    map (λ line. line.number) lines ≡ range_with_len first (length lines)

abbrev LinesBehind : ℕ → List Line → Type 0
LinesBehind number lines = All (λ (line : Line). number < line.number) lines

pub listed-behind : (bytes : List ℕ) (number : ℕ) (lines : List Line) → LinesBehind number lines
    → AreBehind number (listed bytes lines)
listed-behind bytes number [] behind = tt
listed-behind bytes number (line ∷ more) behind =
    by-test (is_passed_over (text_of bytes line))
    (listed-behind bytes number more (λ k d within. behind (suc k) d (omega (arith, within))))
  where
    by-test : (b : Bool) → AreBehind number (listed bytes more)
        → AreBehind number
        (cons_option (cond b None (Some (entry_at line.number (entry_of_line (text_of bytes line)))))
        (listed bytes more))
    by-test true rest = rest
    by-test false rest = (behind 0 line (omega arith), rest)

pub lines-behind : (lines : List Line) (place : ℕ) (d : Line) → AreRising lines
    → place < length lines
    → LinesBehind (get_or lines place d).number (drop (place + 1) lines)
lines-behind lines place d rising within k e inside =
    let long = length-drop (place + 1) lines in
    subst (λ (line : Line). (get_or lines place d).number < line.number)
    (sym (get_or-drop (place + 1) lines k e
    ∙ get_or_default lines (place + 1 + k) e d (omega (arith, long, inside))))
    (rising place (place + 1 + k) d (omega arith) (omega (arith, long, inside)))

pub number-at : (first : ℕ) (lines : List Line) (place : ℕ) (d : Line) → AreNumbered first lines
    → place < length lines → (get_or lines place d).number ≡ first + place
number-at first lines place d is within =
    sym (get_or-map (λ (line : Line). line.number) lines place d 0 within)
    ∙ ap (λ ns. get_or ns place 0) is
    ∙ get_or-range_with_len first (length lines) place 0 within

-- lines that are numbered one by one have rising numbers
pub rising : (first : ℕ) (lines : List Line) → AreNumbered first lines → AreRising lines
rising first lines is i j d lower within =
    omega (
      arith,
      lower,
      number-at first lines i d is (omega (arith, lower, within)),
      number-at first lines j d is within,
    )

-- the first of them, and the entries of those behind it
pub first-number : (line : Line) (more : List Line) → AreNumbered 1 (line ∷ more)
    → line.number ≡ 1
first-number line more is = cc

pub first-behind : (bytes : List ℕ) (line : Line) (more : List Line) → AreRising (line ∷ more)
    → AreBehind line.number (listed bytes more)
first-behind bytes line more rises =
    listed-behind bytes line.number more (lines-behind (line ∷ more) 0 line rises (omega arith))

pub entries-behind-stay : (affixes : Affixes) (P : DicFaultAtLine → Type 0) (number : ℕ)
    → ((fault : DicFaultAtLine) → number < fault.line → P fault)
    → (limit : ℕ) (entries : List Listed) → AreBehind number entries
    → AllByRecursion P (entries_faults affixes limit entries)
entries-behind-stay affixes P number holds limit entries behind =
    each-append P (own_faults affixes entries) (many_faults limit entries)
    (own-behind affixes P number holds entries behind)
    (many-behind P number holds limit entries behind)
