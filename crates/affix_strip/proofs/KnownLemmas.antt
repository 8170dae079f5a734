-- Words that are added to the known ones.
use Rattle.std.proofs.Common.{◌≡◌, ◌∙◌, ◌⊎◌, inl, inr, refl, sym, ap, ℕ, ◌+◌, ◌<◌, ◌≤◌, min}
use Rattle.std.proofs.Common.{true, List, [], ◌∷◌, ◌++◌, append-nil, append_assoc, length}
use Rattle.std.proofs.Common.{take, length-append, arith}
use Rattle.std.proofs.lemmas.Bool.{cases_lt}
use Rattle.std.proofs.lemmas.List.{take_all, take-append-le}
use Rattle.key_filter.specs.Filter.{may_have}
use Rattle.entry_table.specs.declared.hashed.TheConstants.{START}
use Rattle.affix_strip.specs.declared.known_words.KnownWords.{KnownWords}
use Rattle.affix_strip.specs.declared.known_words.TheConstants.{MOST_OF_HEAD}
use Rattle.entry_table.specs.Hashes.{folded, hash_of}
use Rattle.affix_strip.specs.Inside.{IsKnown, KeepsKnown}
use Rattle.entry_table.specs.HashLaws.{folded-append, folded-none}

pub keeps-known : (known : KnownWords) → KeepsKnown known known
keeps-known known = record { words = λ key is. is; heads = λ key is. is }

pub keeps-known-both : {first second third : KnownWords} → KeepsKnown first second
    → KeepsKnown second third → KeepsKnown first third
keeps-known-both one two = record {
  words = λ key is. two.words key (one.words key is);
  heads = λ key is. two.heads key (one.heads key is);
}

pub known-still : {before now : KnownWords} → KeepsKnown before now → (word : List ℕ)
    → IsKnown before word → IsKnown now word
known-still keeps word is = record {
  there = keeps.words (hash_of word) is.there;
  fronts = λ count some within short.
      keeps.heads (hash_of (take count word)) (is.fronts count some within short);
}

-- The word is this front and what is left of it. The hash is that of the front, whose own first
-- fronts are there, up to so many characters.
pub record IsAddedTo (before now : KnownWords) (word rest : List ℕ) (key count : ℕ) : Type 0 where
  pub front : List ℕ
  pub whole : word ≡ front ++ rest
  pub hash : key ≡ hash_of front
  pub long : count ≡ min (length front) MOST_OF_HEAD
  pub heads : (n : ℕ) → 0 < n → n ≤ count → may_have now.heads (hash_of (take n front)) ≡ true
  pub kept : KeepsKnown before now

pub added-first : (known : KnownWords) (word : List ℕ) → IsAddedTo known known word word START 0
added-first known word = record {
  front = [];
  whole = refl;
  hash = sym (folded-none START);
  long = refl;
  heads = λ n some within. absurd (omega (arith, some, within));
  kept = keeps-known known;
}

pub added-one : {before middle now : KnownWords} {word rest : List ℕ} {key count : ℕ} (c : ℕ)
    (later : List ℕ) {next more : ℕ} → rest ≡ c ∷ later → next ≡ folded key (c ∷ [])
    → more ≡ min (count + 1) MOST_OF_HEAD
    → (count < MOST_OF_HEAD → may_have now.heads next ≡ true) → KeepsKnown middle now
    → IsAddedTo before middle word rest key count
    → IsAddedTo before now word later next more
added-one {before} {middle} {now} {word} {rest} {key} {count} c later {next} {more} split is
    longer there keeps was = record {
      front = was.front ++ c ∷ [];
      whole = was.whole ∙ ap (λ r. was.front ++ r) split
          ∙ sym (append_assoc was.front (c ∷ []) later);
      hash = hashed;
      long = omega (arith, longer, was.long, length-append was.front (c ∷ []));
      heads = λ n some within. by n some within (cases_lt count n);
      kept = keeps-known-both was.kept keeps;
    }
  where
    hashed : next ≡ hash_of (was.front ++ c ∷ [])
    hashed =
        is ∙ ap (λ k. folded k (c ∷ [])) was.hash ∙ sym (folded-append START was.front (c ∷ []))

    by : (n : ℕ) → 0 < n → n ≤ more → (count < n) ⊎ (n ≤ count)
        → may_have now.heads (hash_of (take n (was.front ++ c ∷ []))) ≡ true
    by n some within (inl past) =
        ap (λ t. may_have now.heads (hash_of t))
        (take_all n (was.front ++ c ∷ [])
        (omega (arith, past, within, longer, was.long, length-append was.front (c ∷ []))))
        ∙ ap (may_have now.heads) (sym hashed) ∙ there (omega (arith, past, within, longer))
    by n some within (inr below) =
        ap (λ t. may_have now.heads (hash_of t))
        (take-append-le n was.front (c ∷ []) (omega (arith, below, was.long)))
        ∙ keeps.heads (hash_of (take n was.front)) (was.heads n some below)

-- nothing is left, and the word's own hash is there
pub added-all : {before middle now : KnownWords} {word : List ℕ} {key count : ℕ}
    → may_have now.words key ≡ true → KeepsKnown middle now
    → IsAddedTo before middle word [] key count
    → IsKnown now word × KeepsKnown before now
added-all {before} {middle} {now} {word} {key} {count} there keeps was = (
  record {
    there = ap (λ t. may_have now.words (hash_of t)) whole ∙ ap (may_have now.words) (sym was.hash)
        ∙ there;
    fronts = λ n some within short.
        ap (λ t. may_have now.heads (hash_of (take n t))) whole
        ∙ keeps.heads (hash_of (take n was.front))
        (was.heads n some (omega (arith, within, short, was.long, ap length whole)));
  },
  keeps-known-both was.kept keeps,
)
  where
    whole : word ≡ was.front
    whole = was.whole ∙ append-nil was.front
