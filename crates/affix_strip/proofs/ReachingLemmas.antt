-- Places that may be reached, one after another: behind affixes, and behind known words.
use Rattle.std.proofs.Common.{◌≡◌, ◌∙◌, ◌⊎◌, inl, inr, refl, sym, ap, subst, ℕ, ◌+◌, ◌-◌, ◌<◌, ◌≤◌}
use Rattle.std.proofs.Common.{min, Bool, true, false, true≢false, ◌&&◌, ◌||◌, List, ◌++◌}
use Rattle.std.proofs.Common.{append_assoc, length, take, drop, set, length-set, length-append}
use Rattle.std.proofs.Common.{length-take, get_or-set_same, get_or-set_other, arith}
use Rattle.std.proofs.Math.Seq.{take-append_seam, drop-append_seam}
use Rattle.std.proofs.lemmas.Bool.{and_from, cases_lt, cases_order, or_left, or_right}
use Rattle.std.proofs.lemmas.List.{take_all, take-take, take-append-le}
use Rattle.key_filter.specs.Filter.{may_have}
use Rattle.affix_strip.specs.declared.edges.Edge.{Edge}
use Rattle.affix_strip.specs.declared.known_words.KnownWords.{KnownWords}
use Rattle.affix_strip.specs.declared.known_words.TheConstants.{MOST_OF_HEAD}
use Rattle.affix_strip.specs.Edges.{adds, IsNotedChange, ReachesAdded, ReachesEndings}
use Rattle.entry_table.specs.Hashes.{hash_of}
use Rattle.affix_strip.specs.Inside.{IsKnown, end_exchanged, front_exchanged, ReachesWords, ReachesWordsIf}
use Rattle.affix_strip.specs.Inside.{ReachesParts, ReachesBehind}
use Rattle.affix_strip.specs.Reaching.{is_reached, KeepsReached, ReachesAll}
use Rattle.affix_strip.proofs.EdgeLemmas.{none-there, some-there}

-- ---- places
pub keeps-all : (from : ℕ) (reached : List Bool) → KeepsReached from reached reached
keeps-all from reached = record {
  long = refl;
  same = λ place below. refl;
  kept = λ place is. is;
}

pub keeps-both : {from next : ℕ} {first second third : List Bool} → from ≤ next
    → KeepsReached from first second → KeepsReached next second third → KeepsReached from first third
keeps-both before one two = record {
  long = two.long ∙ one.long;
  same = λ place below. two.same place (omega (arith, before, below)) ∙ one.same place below;
  kept = λ place is. two.kept place (one.kept place is);
}

pub one-reached : (reached : List Bool) (at : ℕ) → at < length reached
    → KeepsReached at reached (set reached at true)
one-reached reached at within = record {
  long = length-set reached at true;
  same = λ place below. other place (λ same. omega (arith, same, below));
  kept = λ place is. by place is (cases_order place at);
}
  where
    other : (place : ℕ) → ((place ≡ at) → ⊥)
        → is_reached (set reached at true) place ≡ is_reached reached place
    other place apart = get_or-set_other reached at place true false apart

    by : (place : ℕ) → is_reached reached place ≡ true
        → (place ≡ at) ⊎ ((place < at) ⊎ (at < place))
        → is_reached (set reached at true) place ≡ true
    by place is (inl same) =
        ap (is_reached (set reached at true)) same ∙ get_or-set_same reached at true false within
    by place is (inr (inl less)) = other place (λ same. omega (arith, same, less)) ∙ is
    by place is (inr (inr above)) = other place (λ same. omega (arith, same, above)) ∙ is

-- the places before a bound may be reached, and one more
pub record ReachesUpTo (from bound : ℕ) (before now : List Bool) : Type 0 where
  pub kept : KeepsReached from before now
  pub all : (place : ℕ) → from ≤ place → place < bound → is_reached now place ≡ true

pub one-more-reached : {from : ℕ} {before now : List Bool} (at : ℕ) → from ≤ at → at < length now
    → ReachesUpTo from at before now → ReachesUpTo from (at + 1) before (set now at true)
one-more-reached {from} {before} {now} at behind within was = record {
  kept = keeps-both behind was.kept (one-reached now at within);
  all = λ place past below. by place past (cases_lt place at) below;
}
  where
    by : (place : ℕ) → from ≤ place → (place < at) ⊎ (at ≤ place) → place < at + 1
        → is_reached (set now at true) place ≡ true
    by place past (inl less) below =
        (one-reached now at within).kept place (was.all place past less)
    by place past (inr not_less) below =
        let same : place ≡ at = omega (arith, not_less, below) in
        ap (is_reached (set now at true)) same ∙ get_or-set_same now at true false within

-- ---- behind affixes at the end
module _ (edge : Edge) (text : List ℕ) (at : ℕ) (whole : Bool) {before middle : List Bool}
    (fits : at + length text ≡ length before) (first : KeepsReached at before middle)
    (here : (whole || edge.shortens) ≡ true → at < length before → is_reached middle at ≡ true) where
  -- an affix that adds nothing leads to the place itself
  at-once : (add more : List ℕ) (strips : ℕ) → IsNotedChange edge add strips
      → (strips ≡ 0 → whole ≡ true) → text ≡ add ++ more → 0 < length more → length add ≡ 0
      → is_reached middle (at + length add) ≡ true
  at-once add more strips noted is_whole is some nothing =
      let same : at + length add ≡ at = omega (arith, nothing) in
      ap (is_reached middle) same
      ∙ here (allowed (some-there strips))
      (omega (arith, fits, ap length is, length-append add more, some))
    where
      allowed : (strips ≡ 0) ⊎ (0 < strips) → (whole || edge.shortens) ≡ true
      allowed (inl none) = or_left whole edge.shortens (is_whole none)
      allowed (inr some) = or_right whole edge.shortens (noted.shortens nothing some)

  pub endings-none : (whole || edge.exchanges) ≡ false
      → ReachesEndings edge text at whole before middle
  endings-none none = record {
    kept = first;
    told = λ add more strips noted is_whole is some.
        by add more strips noted is_whole is some (some-there (length add)) (some-there strips);
  }
    where
      by : (add more : List ℕ) (strips : ℕ) → IsNotedChange edge add strips
          → (strips ≡ 0 → whole ≡ true) → text ≡ add ++ more → 0 < length more
          → (length add ≡ 0) ⊎ (0 < length add) → (strips ≡ 0) ⊎ (0 < strips)
          → is_reached middle (at + length add) ≡ true
      by add more strips noted is_whole is some (inl nothing) either =
          at-once add more strips noted is_whole is some nothing
      by add more strips noted is_whole is some (inr adding) (inl nothing) =
          absurd (true≢false (sym (or_left whole edge.exchanges (is_whole nothing)) ∙ none))
      by add more strips noted is_whole is some (inr adding) (inr stripping) =
          absurd (true≢false
          (sym (or_right whole edge.exchanges (noted.exchanges adding stripping)) ∙ none))

  pub endings-added : {now : List Bool} → ReachesAdded edge text at whole middle now
      → ReachesEndings edge text at whole before now
  endings-added {now} added = record {
    kept = keeps-both (omega arith) first added.kept;
    told = λ add more strips noted is_whole is some.
        by add more strips noted is_whole is some (some-there (length add));
  }
    where
      does : (add : List ℕ) (strips : ℕ) → IsNotedChange edge add strips
          → (strips ≡ 0 → whole ≡ true) → 0 < length add → (strips ≡ 0) ⊎ (0 < strips)
          → adds edge whole (hash_of add) ≡ true
      does add strips noted is_whole adding (inl nothing) =
          or_left (whole && may_have edge.plain (hash_of add))
          (edge.exchanges && may_have edge.exchanged (hash_of add))
          (and_from whole (may_have edge.plain (hash_of add)) (is_whole nothing)
          (noted.plain adding nothing))
      does add strips noted is_whole adding (inr stripping) =
          or_right (whole && may_have edge.plain (hash_of add))
          (edge.exchanges && may_have edge.exchanged (hash_of add))
          (and_from edge.exchanges (may_have edge.exchanged (hash_of add))
          (noted.exchanges adding stripping) (noted.exchanged adding stripping))

      by : (add more : List ℕ) (strips : ℕ) → IsNotedChange edge add strips
          → (strips ≡ 0 → whole ≡ true) → text ≡ add ++ more → 0 < length more
          → (length add ≡ 0) ⊎ (0 < length add) → is_reached now (at + length add) ≡ true
      by add more strips noted is_whole is some (inl nothing) =
          added.kept.kept (at + length add)
          (at-once add more strips noted is_whole is some nothing)
      by add more strips noted is_whole is some (inr adding) =
          added.told (length add) adding noted.within
          (omega (arith, ap length is, length-append add more, some))
          (ap (λ t. adds edge whole (hash_of t))
          (ap (take (length add)) is ∙ take-append_seam add more)
          ∙ does add strips noted is_whole adding (some-there strips))

-- the places behind so many characters that may be added
pub record ReachesAddedTo (edge : Edge) (text : List ℕ) (at : ℕ) (whole : Bool) (bound : ℕ)
    (before now : List Bool) : Type 0 where
  pub kept : KeepsReached at before now
  pub told : (count : ℕ) → 0 < count → count ≤ bound → count < length text
      → adds edge whole (hash_of (take count text)) ≡ true → is_reached now (at + count) ≡ true

pub added-none : (edge : Edge) (text : List ℕ) (at : ℕ) (whole : Bool) (reached : List Bool)
    → ReachesAddedTo edge text at whole 0 reached reached
added-none edge text at whole reached = record {
  kept = keeps-all at reached;
  told = λ count some within. absurd (omega (arith, some, within));
}

pub added-more : (edge : Edge) (text : List ℕ) (at : ℕ) (whole : Bool) (bound : ℕ)
    {before middle now : List Bool} → at + length text ≡ length middle
    → KeepsReached (at + bound + 1) middle now
    → (adds edge whole (hash_of (take (bound + 1) text)) ≡ true → at + bound + 1 < length middle
    → is_reached now (at + bound + 1) ≡ true)
    → ReachesAddedTo edge text at whole bound before middle
    → ReachesAddedTo edge text at whole (bound + 1) before now
added-more edge text at whole bound {before} {middle} {now} fits kept last was = record {
  kept = keeps-both (omega arith) was.kept kept;
  told = λ count some within inside does. by count some within inside does (cases_lt bound count);
}
  where
    by : (count : ℕ) → 0 < count → count ≤ bound + 1 → count < length text
        → adds edge whole (hash_of (take count text)) ≡ true → (bound < count) ⊎ (count ≤ bound)
        → is_reached now (at + count) ≡ true
    by count some within inside does (inl past) =
        let same : count ≡ bound + 1 = omega (arith, past, within) in
        let place : at + count ≡ at + bound + 1 = omega (arith, same) in
        ap (is_reached now) place
        ∙ last (sym (ap (λ n. adds edge whole (hash_of (take n text))) same) ∙ does)
        (omega (arith, fits, inside, same))
    by count some within inside does (inr below) =
        kept.kept (at + count) (was.told count some below inside does)

pub added-all : {edge : Edge} {text : List ℕ} {at : ℕ} {whole : Bool} {bound : ℕ}
    {before now : List Bool} → min edge.longest (length text) ≤ bound
    → ReachesAddedTo edge text at whole bound before now → ReachesAdded edge text at whole before now
added-all past was = record {
  kept = was.kept;
  told = λ count some within inside does.
      was.told count some (omega (arith, past, within, inside)) inside does;
}

-- ---- behind known words
-- the places to which words lead of which fewer characters are kept
pub record ReachesWordsBelow (known : KnownWords) (ends : Edge) (text : List ℕ) (at bound : ℕ)
    (before now : List Bool) : Type 0 where
  pub kept : KeepsReached at before now
  pub told : (word add more : List ℕ) (strips : ℕ) → IsKnown known word
      → IsNotedChange ends add strips → text ≡ end_exchanged word strips add ++ more → 0 < length more
      → length (take (length word - strips) word) < bound
      → is_reached now (at + length (end_exchanged word strips add)) ≡ true

pub words-none : (known : KnownWords) (ends : Edge) (text : List ℕ) (at : ℕ) (reached : List Bool)
    → ReachesWordsBelow known ends text at 0 reached reached
words-none known ends text at reached = record {
  kept = keeps-all at reached;
  told = λ word add more strips is noted whole some below. absurd (omega (arith, below));
}

module _ (known : KnownWords) (ends : Edge) (text : List ℕ) (at bound : ℕ) where
  pub words-more : {before middle now : List Bool} {rest : List ℕ} {key : ℕ} {whole : Bool}
      → rest ≡ drop bound text → key ≡ hash_of (take bound text)
      → whole ≡ may_have known.words key → ReachesEndings ends rest (at + bound) whole middle now
      → ReachesWordsBelow known ends text at bound before middle
      → ReachesWordsBelow known ends text at (bound + 1) before now
  words-more {before} {middle} {now} {rest} {key} {whole} same hashed found reaches was = record {
    kept = keeps-both (omega arith) was.kept endings.kept;
    told = λ word add more strips is noted whole some below.
        by word add more strips is noted whole some
        (cases_lt (length (take (length word - strips) word)) bound) below;
  }
    where
      endings : ReachesEndings ends (drop bound text) (at + bound)
          (may_have known.words (hash_of (take bound text))) middle now
      endings =
          subst (λ w. ReachesEndings ends (drop bound text) (at + bound) w middle now)
          (found ∙ ap (may_have known.words) hashed)
          (subst (λ t. ReachesEndings ends t (at + bound) whole middle now) same reaches)

      by : (word add more : List ℕ) (strips : ℕ) → IsKnown known word
          → IsNotedChange ends add strips → text ≡ end_exchanged word strips add ++ more
          → 0 < length more → (length (take (length word - strips) word) < bound)
          ⊎ (bound ≤ length (take (length word - strips) word))
          → length (take (length word - strips) word) < bound + 1
          → is_reached now (at + length (end_exchanged word strips add)) ≡ true
      by word add more strips is noted whole some (inl less) below =
          endings.kept.kept (at + length (end_exchanged word strips add))
          (was.told word add more strips is noted whole some less)
      by word add more strips is noted whole some (inr past) below =
          ap (is_reached now) (omega (arith, length-append stem add, count))
          ∙ endings.told add more strips noted
          (λ none. ap (λ t. may_have known.words (hash_of t)) (front ∙ all none) ∙ is.there)
          back some
        where
          stem : List ℕ
          stem = take (length word - strips) word

          count : length stem ≡ bound
          count = omega (arith, past, below)

          cut : text ≡ stem ++ (add ++ more)
          cut = whole ∙ append_assoc stem add more

          front : take bound text ≡ stem
          front =
              ap (λ n. take n text) (sym count) ∙ ap (take (length stem)) cut
              ∙ take-append_seam stem (add ++ more)

          back : drop bound text ≡ add ++ more
          back =
              ap (λ n. drop n text) (sym count) ∙ ap (drop (length stem)) cut
              ∙ drop-append_seam stem (add ++ more)

          all : strips ≡ 0 → stem ≡ word
          all none = take_all (length word - strips) word (omega (arith, none))

  -- no word begins as the text does
  pub words-end : {before now : List Bool} → bound + 1 ≤ MOST_OF_HEAD
      → may_have known.heads (hash_of (take (bound + 1) text)) ≡ false
      → ReachesWordsBelow known ends text at (bound + 1) before now
      → ReachesWords known ends text at before now
  words-end {before} {now} short none was = record {
    kept = was.kept;
    told = λ word add more strips is noted whole some.
        by word add more strips is noted whole some
        (cases_lt (length (take (length word - strips) word)) (bound + 1));
  }
    where
      by : (word add more : List ℕ) (strips : ℕ) → IsKnown known word
          → IsNotedChange ends add strips → text ≡ end_exchanged word strips add ++ more
          → 0 < length more → (length (take (length word - strips) word) < bound + 1)
          ⊎ (bound + 1 ≤ length (take (length word - strips) word))
          → is_reached now (at + length (end_exchanged word strips add)) ≡ true
      by word add more strips is noted whole some (inl less) =
          was.told word add more strips is noted whole some less
      by word add more strips is noted whole some (inr past) =
          absurd (true≢false
          (sym (is.fronts (bound + 1) (omega arith) (omega (arith, within)) short)
          ∙ ap (λ t. may_have known.heads (hash_of t)) (sym front) ∙ none))
        where
          stem : List ℕ
          stem = take (length word - strips) word

          within : bound + 1 ≤ min (length word - strips) (length word)
          within = subst (λ n. bound + 1 ≤ n) (length-take (length word - strips) word) past

          front : take (bound + 1) text ≡ take (bound + 1) word
          front =
              ap (take (bound + 1)) (whole ∙ append_assoc stem add more)
              ∙ take-append-le (bound + 1) stem (add ++ more) past
              ∙ take-take (bound + 1) (length word - strips) word (omega (arith, within))

pub words-all : {known : KnownWords} {ends : Edge} {text : List ℕ} {at bound : ℕ}
    {before now : List Bool} → length text ≤ bound
    → ReachesWordsBelow known ends text at bound before now
    → ReachesWords known ends text at before now
words-all past was = record {
  kept = was.kept;
  told = λ word add more strips is noted whole some.
      was.told word add more strips is noted whole some
      (omega (
        arith,
        past,
        some,
        ap length whole,
        length-append (end_exchanged word strips add) more,
        length-append (take (length word - strips) word) add,
      ));
}

-- ---- behind what prefixes add
-- the places to which words lead behind a prefix that adds so many characters at most
pub record ReachesBehindTo (known : KnownWords) (fronts ends : Edge) (text : List ℕ) (at bound : ℕ)
    (before now : List Bool) : Type 0 where
  pub kept : KeepsReached at before now
  pub told : (front word add more : List ℕ) (cut strips : ℕ) → IsKnown known word
      → IsNotedChange fronts front cut → IsNotedChange ends add strips → 0 < length front
      → length front ≤ bound
      → text ≡ front_exchanged front cut (end_exchanged word strips add) ++ more → 0 < length more
      → is_reached now (at + length (front_exchanged front cut (end_exchanged word strips add))) ≡ true

pub behind-none : (known : KnownWords) (fronts ends : Edge) (text : List ℕ) (at : ℕ)
    (reached : List Bool) → ReachesBehindTo known fronts ends text at 0 reached reached
behind-none known fronts ends text at reached = record {
  kept = keeps-all at reached;
  told = λ front word add more cut strips is begins noted some within whole left.
      absurd (omega (arith, some, within));
}

module _ (known : KnownWords) (fronts ends : Edge) (text : List ℕ) (at bound : ℕ) where
  pub behind-more : {before middle now : List Bool} {rest : List ℕ} {key : ℕ} {may : Bool}
      → rest ≡ drop (bound + 1) text → key ≡ hash_of (take (bound + 1) text)
      → may_have fronts.exchanged key ≡ false → may ≡ may_have fronts.plain key
      → ReachesWordsIf may known ends rest (at + bound + 1) middle now
      → ReachesBehindTo known fronts ends text at bound before middle
      → ReachesBehindTo known fronts ends text at (bound + 1) before now
  behind-more {before} {middle} {now} {rest} {key} {may} same hashed none found reaches was = record {
    kept = keeps-both (omega arith) was.kept last.kept;
    told = λ front word add more cut strips is begins noted some within whole left.
        by front word add more cut strips is begins noted some whole left
        (cases_lt bound (length front)) (some-there cut) within;
  }
    where
      last : ReachesWordsIf (may_have fronts.plain (hash_of (take (bound + 1) text))) known ends
          (drop (bound + 1) text) (at + bound + 1) middle now
      last =
          subst (λ m. ReachesWordsIf m known ends (drop (bound + 1) text) (at + bound + 1) middle now)
          (found ∙ ap (may_have fronts.plain) hashed)
          (subst (λ t. ReachesWordsIf may known ends t (at + bound + 1) middle now) same reaches)

      by : (front word add more : List ℕ) (cut strips : ℕ) → IsKnown known word
          → IsNotedChange fronts front cut → IsNotedChange ends add strips → 0 < length front
          → text ≡ front_exchanged front cut (end_exchanged word strips add) ++ more → 0 < length more
          → (bound < length front) ⊎ (length front ≤ bound) → (cut ≡ 0) ⊎ (0 < cut)
          → length front ≤ bound + 1
          → is_reached now (at + length (front_exchanged front cut (end_exchanged word strips add))) ≡ true
      by front word add more cut strips is begins noted some whole left (inr below) either within =
          last.kept.kept (at + length (front_exchanged front cut (end_exchanged word strips add)))
          (was.told front word add more cut strips is begins noted some below whole left)
      by front word add more cut strips is begins noted some whole left (inl past) either within =
          here either
        where
          made : List ℕ
          made = end_exchanged word strips add

          count : length front ≡ bound + 1
          count = omega (arith, past, within)

          split : text ≡ front ++ (drop cut made ++ more)
          split = whole ∙ append_assoc front (drop cut made) more

          begun : take (bound + 1) text ≡ front
          begun =
              ap (λ n. take n text) (sym count) ∙ ap (take (length front)) split
              ∙ take-append_seam front (drop cut made ++ more)

          behind : drop (bound + 1) text ≡ drop cut made ++ more
          behind =
              ap (λ n. drop n text) (sym count) ∙ ap (drop (length front)) split
              ∙ drop-append_seam front (drop cut made ++ more)

          here : (cut ≡ 0) ⊎ (0 < cut)
              → is_reached now (at + length (front_exchanged front cut made)) ≡ true
          here (inl nothing) =
              let unchanged : drop cut made ≡ made = ap (λ n. drop n made) nothing in
              let place : at + length (front ++ drop cut made) ≡ at + bound + 1 + length made =
              omega (arith, length-append front (drop cut made), ap length unchanged, count) in
              ap (is_reached now) place
              ∙ (last.words (ap (λ t. may_have fronts.plain (hash_of t)) begun
              ∙ begins.plain some nothing)).told word add more strips is noted
              (behind ∙ ap (λ t. t ++ more) unchanged) left
          here (inr stripping) =
              absurd (true≢false
              (sym (begins.exchanged some stripping)
              ∙ ap (λ t. may_have fronts.exchanged (hash_of t)) (sym begun)
              ∙ ap (may_have fronts.exchanged) (sym hashed) ∙ none))

pub behind-all : {known : KnownWords} {fronts ends : Edge} {text : List ℕ} {at bound : ℕ}
    {before now : List Bool} → min fronts.longest (length text) ≤ bound
    → ReachesBehindTo known fronts ends text at bound before now
    → ReachesBehind known fronts ends text at before now
behind-all {text = text} past was = record {
  kept = was.kept;
  told = λ front word add more cut strips is begins noted some whole left.
      was.told front word add more cut strips is begins noted some
      (omega (
        arith,
        past,
        begins.within,
        ap length whole,
        length-append (front_exchanged front cut (end_exchanged word strips add)) more,
        length-append front (drop cut (end_exchanged word strips add)),
      )) whole left;
}

-- where all places may be reached
pub behind-each : (known : KnownWords) (fronts ends : Edge) (text : List ℕ) (at : ℕ)
    {before middle now : List Bool} → at + length text ≡ length now → KeepsReached at before middle
    → ReachesAll at middle now → ReachesBehind known fronts ends text at before now
behind-each known fronts ends text at fits first all = record {
  kept = keeps-both (omega arith) first all.kept;
  told = λ front word add more cut strips is begins noted some whole left.
      all.all (at + length (front_exchanged front cut (end_exchanged word strips add))) (omega arith)
      (omega (
        arith,
        fits,
        left,
        ap length whole,
        length-append (front_exchanged front cut (end_exchanged word strips add)) more,
      ));
}

pub parts-each : (known : KnownWords) (fronts ends : Edge) (text : List ℕ) (at : ℕ)
    {before now : List Bool} → at + length text ≡ length now
    → ReachesAll at before now → ReachesParts known fronts ends text at before now
parts-each known fronts ends text at fits all = record {
  kept = all.kept;
  told = λ front word add more cut strips is begins noted whole left.
      all.all (at + length (front_exchanged front cut (end_exchanged word strips add))) (omega arith)
      (omega (
        arith,
        fits,
        left,
        ap length whole,
        length-append (front_exchanged front cut (end_exchanged word strips add)) more,
      ));
}

-- words without a prefix, and those with one
pub parts-both : {known : KnownWords} {fronts ends : Edge} {text : List ℕ} {at : ℕ}
    {before middle now : List Bool} → fronts.shortens ≡ false
    → ReachesWords known ends text at before middle
    → ReachesBehind known fronts ends text at middle now
    → ReachesParts known fronts ends text at before now
parts-both {known} {fronts} {ends} {text} {at} {before} {middle} {now} long words behind = record {
  kept = keeps-both (omega arith) words.kept behind.kept;
  told = λ front word add more cut strips is begins noted whole left.
      by front word add more cut strips is begins noted whole left (some-there (length front))
      (some-there cut);
}
  where
    by : (front word add more : List ℕ) (cut strips : ℕ) → IsKnown known word
        → IsNotedChange fronts front cut → IsNotedChange ends add strips
        → text ≡ front_exchanged front cut (end_exchanged word strips add) ++ more → 0 < length more
        → (length front ≡ 0) ⊎ (0 < length front) → (cut ≡ 0) ⊎ (0 < cut)
        → is_reached now (at + length (front_exchanged front cut (end_exchanged word strips add))) ≡ true
    by front word add more cut strips is begins noted whole left (inr some) either =
        behind.told front word add more cut strips is begins noted some whole left
    by front word add more cut strips is begins noted whole left (inl nothing) (inr stripping) =
        absurd (true≢false (sym (begins.shortens nothing stripping) ∙ long))
    by front word add more cut strips is begins noted whole left (inl nothing) (inl none) =
        let same : front_exchanged front cut (end_exchanged word strips add) ≡ end_exchanged word strips add =
        ap (λ f. f ++ drop cut (end_exchanged word strips add)) (none-there front nothing)
        ∙ ap (λ n. drop n (end_exchanged word strips add)) none in
        ap (λ t. is_reached now (at + length t)) same
        ∙ behind.kept.kept (at + length (end_exchanged word strips add))
        (words.told word add more strips is noted
        (whole ∙ ap (λ t. t ++ more) same) left)
