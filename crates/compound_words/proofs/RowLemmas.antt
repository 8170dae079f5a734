-- The rows of a word.
use Rattle.std.proofs.Common.{◌≡◌, ◌∙◌, refl, sym, ap, subst, ℕ, zero, suc, ◌+◌, ◌-◌, ◌<◌, ◌≤◌}
use Rattle.std.proofs.Common.{Bool, true, false, true≢false, cond, ◌&&◌, ◌==◌, slice_get, ◌⊎◌, inl}
use Rattle.std.proofs.Common.{inr, List, [], ◌∷◌, ◌++◌, length, take, drop, get_or, Option, None}
use Rattle.std.proofs.Common.{Some, arith, append-nil, length-drop}
use Rattle.std.specs.List.{AllByRecursion}
use Rattle.std.specs.Option.{option_map_or}
use Rattle.std.proofs.lemmas.Bool.{cases_lt, and_parts, and_from, or_cases}
use Rattle.std.proofs.lemmas.Bool.Decides.{nat_tests}
use Rattle.std.proofs.Math.Seq.{take-append_seam, drop-append_seam}
use Rattle.std.proofs.lemmas.List.{take_more, take_all, take-append-drop}
use Rattle.spell_types.specs.declared.parts.Part.{Part}
use Rattle.spell_types.specs.declared.parts.Place.{Place}
use Rattle.spell_types.specs.declared.parts.Place.TheVariants.{Middle}
use Rattle.spell_types.specs.declared.patterns.PatternStep.{PatternStep}
use Rattle.spell_types.specs.declared.derivations.Derivation.{Derivation}
use Rattle.spell_types.specs.declared.flags.Flag.{Flag}
use Rattle.spell_types.specs.Compounds.{Asked, stretch, written, all_stand, flags_of}
use Rattle.spell_types.specs.EntriesOf.{entry_flags}
use Rattle.spell_types.specs.Parts.{stands_at, stands_in_rule}
use Rattle.spell_types.specs.Patterns.{matches, fits_step, is_left_out, is_many, steps_after}
use Rattle.spell_types.specs.Patterns.{MatchesOneByOne}
use Rattle.compound_words.specs.declared.rests.FirstPart.{FirstPart}
use Rattle.compound_words.specs.declared.rests.RestsRow.{RestsRow}
use Rattle.compound_words.specs.Counting.{OneOf}
use Rattle.compound_words.specs.Rests.{Way, ByFlags, ByRule, matches_from, is_enough, stand_from}
use Rattle.compound_words.specs.Rests.{holds, AreRest, IsRight, HasPart, IsRow, IsRowAt, AreRows}
use Rattle.compound_words.specs.Rests.{AreHeads, Grows, HasFirsts, HasInner, Piece}
use Rattle.affix_strip.specs.Reaching.{is_reached}
use Rattle.compound_words.specs.Reach.{AreReached, IsStartAt}
use Rattle.compound_words.specs.Pieces.{EndsBefore, Whole, may_begin}
use Rattle.compound_words.proofs.NeighbourLemmas.{joined-begins, joined-ends, last-whole}
use Rattle.spell_types.specs.lists.Laws.{each-append, each-weaker}
use Rattle.compound_words.proofs.LeadLemmas.{matches-nothing, drop-one}
use Rattle.compound_words.proofs.AddLemmas.{one-left, one-right, one-cases, grows-twice}
use Rattle.compound_words.proofs.RestLemmas.{given-some, count-within, rest-joint, rest-tail}

-- ---- places behind a first part
pub take-split : (first second : ℕ) (text : List ℕ) → first ≤ length text
    → take first text ++ take second (drop first text) ≡ take (first + second) text
take-split zero second text within = ap (λ n. take n text) (same second)
  where
    same : (n : ℕ) → n ≡ zero + n
    same n = omega arith
take-split (suc first) second [] within = absurd (omega (arith, within))
take-split (suc first) second (c ∷ text) within =
    ap (λ t. c ∷ t) (take-split first second text (omega (arith, within)))
    ∙ ap (λ n. take n (c ∷ text)) (same first second)
  where
    same : (n m : ℕ) → suc (n + m) ≡ suc n + m
    same n m = omega arith

drop-twice : (first second : ℕ) (text : List ℕ)
    → drop second (drop first text) ≡ drop (first + second) text
drop-twice zero second text = ap (λ n. drop n text) (same second)
  where
    same : (n : ℕ) → n ≡ zero + n
    same n = omega arith
drop-twice (suc first) second [] = nothing second ∙ sym (nothing (suc first + second))
  where
    nothing : (n : ℕ) → drop {A = ℕ} n [] ≡ []
    nothing zero = refl
    nothing (suc n) = refl
drop-twice (suc first) second (c ∷ text) =
    drop-twice first second text ∙ ap (λ n. drop n (c ∷ text)) (same first second)
  where
    same : (n m : ℕ) → suc (n + m) ≡ suc n + m
    same n m = omega arith

-- what stands behind the first part stands behind its place
pub behind-place : (a : Asked) (word : List ℕ) (from : ℕ) (part : Part) (more : List Part)
    → AreRest a (drop from word) (part ∷ more)
    → written more ≡ drop (from + length (stretch part)) word
behind-place a word from part more rest =
    sym (drop-append_seam (stretch part) (written more))
    ∙ ap (drop (length (stretch part))) rest.joined ∙ drop-twice from (length (stretch part)) word

pub split-place : (a : Asked) (word : List ℕ) (from : ℕ) (part : Part) (more : List Part)
    → AreRest a (drop from word) (part ∷ more)
    → drop from word ≡ stretch part ++ drop (from + length (stretch part)) word
split-place a word from part more rest =
    sym rest.joined ∙ ap (λ t. stretch part ++ t) (behind-place a word from part more rest)

-- what stands before it
pub front-place : (a : Asked) (word : List ℕ) (from : ℕ) (part : Part) (more : List Part)
    → from ≤ length word → AreRest a (drop from word) (part ∷ more)
    → take from word ++ stretch part ≡ take (from + length (stretch part)) word
front-place a word from part more within rest =
    ap (λ t. take from word ++ t)
    (sym (take-append_seam (stretch part) (written more))
    ∙ ap (take (length (stretch part))) rest.joined)
    ∙ take-split from (length (stretch part)) word within

-- the place is inside the word where another part follows
pub inside-place : (a : Asked) → (word : List ℕ) (from : ℕ) (part next : Part) (more : List Part)
    → AreRest a (drop from word) (part ∷ next ∷ more) → from + length (stretch part) < length word
inside-place a word from part next more rest =
    let long = count-within a (next ∷ more) rest.given.1 in
    omega (
      arith,
      long,
      ap length (behind-place a word from part (next ∷ more) rest),
      length-drop
          (from + length (stretch part)) word,
    )

-- ---- the parts behind a first one stand in some way
pub record Stands (a : Asked) (rules : List (List PatternStep)) (parts : List Part) : Type 0 where
  pub way : Way
  pub so : holds a rules Middle way parts ≡ true

record MatchesAt (pattern : List PatternStep) (sets : List (List Flag)) : Type 0 where
  step : ℕ
  so : matches (drop step pattern) sets ≡ true

match-behind : MatchesOneByOne → (pattern steps : List PatternStep) (step : ℕ) (set : List Flag)
    (sets : List (List Flag)) → drop step pattern ≡ steps → matches steps (set ∷ sets) ≡ true
    → MatchesAt pattern sets
match-behind law pattern [] step set sets at so =
    absurd (true≢false (sym so ∙ matches-nothing set sets))
match-behind law pattern (s ∷ more) step set sets at so =
    either (match-behind law pattern more (step + 1) set sets (drop-one step pattern s more at))
    (or_cases (is_left_out s && matches more (set ∷ sets))
    (fits_step s set && matches (steps_after s more) sets) (sym (law.next s more set sets) ∙ so))
  where
    next : (many : Bool) → drop (cond many step (step + 1)) pattern ≡ cond many (s ∷ more) more
    next true = at
    next false = drop-one step pattern s more at

    either : (matches more (set ∷ sets) ≡ true → MatchesAt pattern sets)
        → ((is_left_out s && matches more (set ∷ sets)) ≡ true)
        ⊎ ((fits_step s set && matches (steps_after s more) sets) ≡ true) → MatchesAt pattern sets
    either later (inl one) = later (and_parts (is_left_out s) (matches more (set ∷ sets)) one).1
    either later (inr two) = record {
      step = cond (is_many s.times) step (step + 1);
      so =
          ap (λ steps. matches steps sets) (next (is_many s.times))
          ∙ (and_parts (fits_step s set) (matches (steps_after s more) sets) two).1;
    }

behind : (stands : Derivation → Place → Bool) (here : Place) (part next : Part) (more : List Part)
    → stand_from stands here (part ∷ next ∷ more) ≡ true
    → stand_from stands Middle (next ∷ more) ≡ true
behind stands here part next more so =
    (and_parts (stands part.d here) (all_stand stands Middle (next ∷ more))
    (and_parts (is_enough here (part ∷ next ∷ more))
    (all_stand stands here (part ∷ next ∷ more)) so).1).1

pub stands-behind : MatchesOneByOne → (a : Asked) (rules : List (List PatternStep)) (here : Place)
    (way : Way) (part next : Part) (more : List Part)
    → holds a rules here way (part ∷ next ∷ more) ≡ true → Stands a rules (next ∷ more)
stands-behind law a rules here ByFlags part next more so =
    record { way = ByFlags; so = behind (stands_at a.lexicon) here part next more so }
stands-behind law a rules here (ByRule rule step) part next more so =
    by (slice_get rules rule) refl both.1
  where
    both : (stand_from (stands_in_rule a.lexicon) here (part ∷ next ∷ more) ≡ true)
        × (matches_from rules rule step (flags_of a (part ∷ next ∷ more)) ≡ true)
    both =
        and_parts (stand_from (stands_in_rule a.lexicon) here (part ∷ next ∷ more))
        (matches_from rules rule step (flags_of a (part ∷ next ∷ more))) so

    by : (found : Option (List PatternStep)) → slice_get rules rule ≡ found
        → option_map_or
        (λ pattern. matches (drop step pattern) (flags_of a (part ∷ next ∷ more)))
        found false ≡ true → Stands a rules (next ∷ more)
    by None at is = absurd (true≢false (sym is))
    by (Some pattern) at is =
        let later =
        match-behind law pattern (drop step pattern) step (entry_flags a.lexicon part.d)
        (flags_of a (next ∷ more)) refl is in
        record {
          way = ByRule rule later.step;
          so =
              and_from (stand_from (stands_in_rule a.lexicon) Middle (next ∷ more))
              (matches_from rules rule later.step (flags_of a (next ∷ more)))
              (behind (stands_in_rule a.lexicon) here part next more both.0)
              (ap (λ o. option_map_or
              (λ pattern. matches (drop later.step pattern) (flags_of a (next ∷ more)))
              o false) at ∙ later.so);
        }

-- ---- a row more
rows-weaker : (a : Asked) (rules : List (List PatternStep)) (word : List ℕ) (from : ℕ) (row : RestsRow)
    → IsRowAt a rules word from row → IsRowAt a rules word (from - 1) row
rows-weaker a rules word from row is =
    record { after = omega (arith, is.after); inside = is.inside; is = is.is; enough = is.enough }

-- what is known of the places behind one is known behind the one before it, if it is known there
rows-all-more : {a : Asked} {rules : List (List PatternStep)} {reached : List Bool}
    {word : List ℕ} {rows : List RestsRow} (from : ℕ) → AreRows a rules reached word from rows
    → (before : List RestsRow) → ((place : ℕ) → OneOf (λ row. row.place ≡ place) rows
    → OneOf (λ row. row.place ≡ place) before)
    → ((part : Part) (more : List Part) (way : Way) → is_reached reached from ≡ true
    → may_begin a.lexicon (take from word) part ≡ true → AreRest a (drop from word) (part ∷ more)
    → holds a rules Middle way (part ∷ more) ≡ true → OneOf (λ row. row.place ≡ from) before)
    → (place : ℕ) (part : Part) (more : List Part) (way : Way) → from - 1 < place
    → place < length word → is_reached reached place ≡ true
    → may_begin a.lexicon (take place word) part ≡ true → AreRest a (drop place word) (part ∷ more)
    → holds a rules Middle way (part ∷ more) ≡ true → OneOf (λ row. row.place ≡ place) before
rows-all-more {a} {rules} {reached} {word} {rows} from are before wider here place part more way
    above inside told begins rest so = by (cases_lt from place)
  where
    by : (from < place) ⊎ (place ≤ from) → OneOf (λ row. row.place ≡ place) before
    by (inl after) = wider place (are.all place part more way after inside told begins rest so)
    by (inr below) =
        let same : place ≡ from = omega (arith, below, above) in
        subst (λ p. OneOf (λ row. row.place ≡ p) before) (sym same)
        (here part more way (subst (λ p. is_reached reached p ≡ true) same told)
        (subst (λ p. may_begin a.lexicon (take p word) part ≡ true) same begins)
        (subst (λ p. AreRest a (drop p word) (part ∷ more)) same rest) so)

-- a place that may not be reached needs no row
pub rows-skip : (a : Asked) (rules : List (List PatternStep)) (reached : List Bool)
    (word : List ℕ) (from : ℕ) (rows : List RestsRow) → AreRows a rules reached word from rows
    → is_reached reached from ≡ false → AreRows a rules reached word (from - 1) rows
rows-skip a rules reached word from rows are out = record {
  right =
      each-weaker (IsRowAt a rules word from) (IsRowAt a rules word (from - 1))
      (rows-weaker a rules word from) rows are.right;
  all =
      rows-all-more from are rows (λ place one. one)
      (λ part more way told begins rest so. absurd (true≢false (sym told ∙ out)));
}

-- there is no rest from a place
pub rows-none : (a : Asked) (rules : List (List PatternStep)) (reached : List Bool)
    (word : List ℕ) (from : ℕ) (rows : List RestsRow) (rests : List FirstPart)
    → AreRows a rules reached word from rows
    → IsRow a rules (take from word) (drop from word) rests → rests ≡ []
    → AreRows a rules reached word (from - 1) rows
rows-none a rules reached word from rows rests are is none = record {
  right =
      each-weaker (IsRowAt a rules word from) (IsRowAt a rules word (from - 1))
      (rows-weaker a rules word from) rows are.right;
  all =
      rows-all-more from are rows (λ place one. one)
      (λ part more way told begins rest so.
      absurd (subst (HasPart part) none (is.all part more way begins rest so)));
}

-- there are some
pub rows-more : {a : Asked} {rules : List (List PatternStep)} {reached : List Bool}
    {word : List ℕ} {from : ℕ} {rows : List RestsRow} (row : RestsRow) → row.place ≡ from
    → AreRows a rules reached word from rows → 0 < from → from < length word
    → IsRow a rules (take from word) (drop from word) row.rests
    → AreHeads row.rests row.heads → AreRows a rules reached word (from - 1) (rows ++ row ∷ [])
rows-more {a} {rules} {reached} {word} {from} {rows} row at are some inside is enough = record {
  right =
      each-append (IsRowAt a rules word (from - 1)) rows
      (row ∷ [])
      (each-weaker (IsRowAt a rules word from) (IsRowAt a rules word (from - 1))
      (rows-weaker a rules word from) rows are.right) (
        record {
          after = omega (arith, some, at);
          inside = omega (arith, inside, at);
          is = subst (λ place. IsRow a rules (take place word) (drop place word) row.rests) (sym at)
              is;
          enough = enough;
        },
        tt,
      );
  all =
      rows-all-more from are (rows ++ row ∷ [])
      (λ place one. one-left (λ row. row.place ≡ place) rows (row ∷ []) one)
      (λ part more way told begins rest so.
      one-right (λ row. row.place ≡ from) rows (row ∷ []) (inl at));
}

-- ---- a row that is gone over
pub row-at : (a : Asked) (rules : List (List PatternStep)) (word : List ℕ) (from : ℕ)
    (rows : List RestsRow) (place : ℕ) (d : RestsRow) → place < length rows
    → AllByRecursion (IsRowAt a rules word from) rows
    → IsRowAt a rules word from (get_or rows place d)
row-at a rules word from [] place d within each = absurd (omega (arith, within))
row-at a rules word from (row ∷ rows) zero d within each = each.0
row-at a rules word from (row ∷ rows) (suc place) d within each =
    row-at a rules word from rows place d (omega (arith, within)) each.1

-- the rests are there whose second part begins at the place of one of the first rows
pub record AreSoFar (a : Asked) (rules : List (List PatternStep)) (here : Place) (word : List ℕ)
    (from : ℕ) (rows : List RestsRow) (index : ℕ) (before now : List FirstPart) : Type 0 where
  pub grows : Grows a rules here (drop from word) before now
  pub has : (part next : Part) (more : List Part) (way : Way)
      → may_begin a.lexicon (take from word) part ≡ true
      → AreRest a (drop from word) (part ∷ next ∷ more)
      → holds a rules here way (part ∷ next ∷ more) ≡ true
      → OneOf (λ row. row.place ≡ from + length (stretch part)) (take index rows) → HasPart part now

-- the piece between a place and that of a row
abbrev pub piece_to : List ℕ → ℕ → RestsRow → Piece
piece_to word from row = record {
  before = take from word;
  front = take (row.place - from) (drop from word);
  following = drop row.place word;
  rests = row.rests;
}

pub piece-whole : (word : List ℕ) (from place : ℕ) → from < place
    → take (place - from) (drop from word) ++ drop place word ≡ drop from word
piece-whole word from place after =
    ap (λ t. take (place - from) (drop from word) ++ t)
    (sym (drop-twice from (place - from) word ∙ ap (λ n. drop n word) (omega (arith, after))))
    ∙ take-append-drop (place - from) (drop from word)

-- parts make up the word from a place on
record AreFrom (a : Asked) (rules : List (List PatternStep)) (here : Place) (way : Way)
    (word : List ℕ) (from : ℕ) (part : Part) (more : List Part) : Type 0 where
  begins : may_begin a.lexicon (take from word) part ≡ true
  rest : AreRest a (drop from word) (part ∷ more)
  so : holds a rules here way (part ∷ more) ≡ true

-- what is known of the parts behind a first one
record IsNext (a : Asked) (rules : List (List PatternStep)) (word : List ℕ) (place : ℕ)
    (next : Part) (more : List Part) : Type 0 where
  way : Way
  begins : may_begin a.lexicon (take place word) next ≡ true
  rest : AreRest a (drop place word) (next ∷ more)
  so : holds a rules Middle way (next ∷ more) ≡ true

next-at : MatchesOneByOne → {a : Asked} {rules : List (List PatternStep)} {here : Place} {way : Way}
    {word : List ℕ} {from : ℕ} {part next : Part} {more : List Part} → from ≤ length word
    → AreFrom a rules here way word from part (next ∷ more)
    → IsNext a rules word (from + length (stretch part)) next more
next-at law {a} {rules} {here} {way} {word} {from} {part} {next} {more} within are =
    let rest = are.rest in
    let behind = stands-behind law a rules here way part next more are.so in
    let text = drop (from + length (stretch part)) word in
    record {
      way = behind.way;
      begins =
          subst (λ b. may_begin a.lexicon b next ≡ true)
          (front-place a word from part (next ∷ more) within rest)
          (joined-begins a (take from word) (stretch part) part next
          (record { given = rest.given.0; writes = refl; begins = are.begins })
          (rest-joint a (drop from word) part next more rest));
      rest =
          rest-tail a text (stretch part) part next more refl
          (subst (λ t. AreRest a t (part ∷ next ∷ more))
          (split-place a word from part (next ∷ more) rest) rest);
      so = behind.so;
    }

-- the places of rows so far, and one more
pub rows-one-more : MatchesOneByOne → {a : Asked} {rules : List (List PatternStep)} {here : Place}
    {word : List ℕ} {from : ℕ} {rows : List RestsRow} {index : ℕ} {item : RestsRow}
    {before middle now : List FirstPart}
    → from ≤ length word → index < length rows → item ≡ get_or rows index item
    → AllByRecursion (IsRowAt a rules word from) rows
    → Grows a rules here
    (take (item.place - from) (drop from word) ++ drop item.place word) middle now
    → HasFirsts a rules here (take (item.place - from) (drop from word) ++ drop item.place word)
    (piece_to word from item) now
    → AreSoFar a rules here word from rows index before middle
    → AreSoFar a rules here word from rows (index + 1) before now
rows-one-more law {a} {rules} {here} {word} {from} {rows} {index} {item} {before} {middle} {now}
    inside within at right grows firsts so_far = record {
      grows = grows-twice a rules here (drop from word) before middle now so_far.grows grown;
      has =
          λ part next more way begins rest so one. by part next more way begins rest so
          (one-cases (λ row. row.place ≡ from + length (stretch part)) (take index rows) (item ∷ [])
          (subst (OneOf (λ row. row.place ≡ from + length (stretch part)))
          (take_more rows index item within ∙ ap (λ row. take index rows ++ row ∷ []) (sym at)) one));
    }
  where
    is : IsRowAt a rules word from item
    is =
        subst (IsRowAt a rules word from) (sym at)
        (row-at a rules word from rows index item within right)

    whole : take (item.place - from) (drop from word) ++ drop item.place word ≡ drop from word
    whole = piece-whole word from item.place is.after

    grown : Grows a rules here (drop from word) middle now
    grown = subst (λ t. Grows a rules here t middle now) whole grows

    here_now : HasFirsts a rules here (drop from word) (piece_to word from item) now
    here_now =
        subst (λ t. HasFirsts a rules here t (piece_to word from item) now) whole firsts

    by : (part next : Part) (more : List Part) (way : Way)
        → may_begin a.lexicon (take from word) part ≡ true
        → AreRest a (drop from word) (part ∷ next ∷ more)
        → holds a rules here way (part ∷ next ∷ more) ≡ true
        → OneOf (λ row. row.place ≡ from + length (stretch part)) (take index rows)
        ⊎ OneOf (λ row. row.place ≡ from + length (stretch part)) (item ∷ []) → HasPart part now
    by part next more way begins rest so (inl one) =
        grown.kept part (so_far.has part next more way begins rest so one)
    by part next more way begins rest so (inr (inl same)) =
        here_now.has part (next ∷ more) way begins ends writes rest so
      where
        writes : stretch part ≡ take (item.place - from) (drop from word)
        writes =
            sym (take-append_seam (stretch part) (written (next ∷ more)))
            ∙ ap (take (length (stretch part))) rest.joined
            ∙ ap (λ n. take n (drop from word)) (omega (arith, same))

        after : IsNext a rules word item.place next more
        after =
            subst (λ place. IsNext a rules word place next more) (sym same)
            (next-at law inside (record { begins = begins; rest = rest; so = so }))

        ends : EndsBefore a.lexicon (drop item.place word) item.rests part
        ends =
            joined-ends a part next more rest
            (behind-place a word from part (next ∷ more) rest ∙ ap (λ n. drop n word) (sym same))
            (is.is.all next more after.way after.begins after.rest after.so)
    by part next more way begins rest so (inr (inr nil)) = absurd nil

-- all rows are gone over
pub rows-all : MatchesOneByOne → {a : Asked} {rules : List (List PatternStep)} {here : Place}
    {reached : List Bool} {word : List ℕ} {from : ℕ} {rows : List RestsRow} {index : ℕ}
    {before now : List FirstPart}
    → from ≤ length word → length rows ≤ index → AreReached a rules word reached
    → (from < length word → is_reached reached from ≡ true) → IsStartAt here from
    → AreRows a rules reached word from rows
    → AreSoFar a rules here word from rows index before now
    → HasInner a rules here (take from word) (drop from word) now
rows-all law {a} {rules} {here} {reached} {word} {from} {rows} {index} {before} {now} within past
    told told_here start are so_far part next more way begins rest so =
    let some = given-some a part rest.given.0 in
    let place = from + length (stretch part) in
    let inside = inside-place a word from part next more rest in
    let after = next-at law within (record { begins = begins; rest = rest; so = so }) in
    so_far.has part next more way begins rest so
    (subst (OneOf (λ row. row.place ≡ place)) (sym (take_all index rows past))
    (are.all place next more after.way (omega (arith, some)) inside
    (told.next here from part next more way (omega (arith, inside)) (told_here (omega (arith, inside)))
    start begins rest so)
    after.begins after.rest after.so))

-- a row of the rests of one part and of those of more
pub row-whole : {a : Asked} {rules : List (List PatternStep)} {before text front : List ℕ}
    {start middle now : List FirstPart} → start ≡ [] → front ≡ text
    → Grows a rules Middle front start middle
    → HasFirsts a rules Middle front
    (record { before = before; front = front; following = []; rests = [] }) middle
    → Grows a rules Middle text middle now
    → HasInner a rules Middle before text now → IsRow a rules before text now
row-whole {a} {rules} {before} {text} {front} {start} {middle} {now} none same grows firsts grown
    inner = record {
      right =
          grown.right ((subst (λ t. Grows a rules Middle t start middle) same grows).right
          (subst (AllByRecursion (IsRight a rules Middle text)) (sym none) tt));
      all = all;
    }
  where
    all : (part : Part) (more : List Part) (way : Way) → may_begin a.lexicon before part ≡ true
        → AreRest a text (part ∷ more) → holds a rules Middle way (part ∷ more) ≡ true
        → HasPart part now
    all part [] way begins rest so =
        grown.kept part
        ((subst (λ t. HasFirsts a rules Middle t
        (record { before = before; front = t; following = []; rests = [] }) middle) same
        firsts).has part [] way begins
        (Whole (last-whole a part rest.ends))
        (sym (append-nil (stretch part)) ∙ rest.joined) rest so)
    all part (next ∷ more) way begins rest so = inner part next more way begins rest so

pub empty-none : (rests : List FirstPart) → (length rests == 0) ≡ true → rests ≡ []
empty-none [] is = refl
empty-none (rest ∷ rests) is = absurd (grind (arith, nat_tests))
