-- One affix of a derivation: none is named, or a rule that can be undone from the word that it
-- makes.
use Rattle.std.proofs.Common.{◌≡◌, ◌∙◌, ◌↔◌, refl, sym, ap, ℕ, true, true≢false, List, Option, None}
use Rattle.std.proofs.Common.{Some, is_some, if◌then◌else◌}
use Rattle.std.proofs.lemmas.Option.{option_and_then_some, cond_some}
use Rattle.spell_types.specs.declared.Lexicon.{Lexicon}
use Rattle.spell_types.specs.declared.derivations.Derivation.{Derivation}
use Rattle.spell_types.specs.declared.rules.Side.{Side}
use Rattle.spell_types.specs.Derivations.{affix_on, is_right, with_affix}
use Rattle.spell_types.specs.Licences.{is_licensed}
use Rattle.affix_strip.specs.Parts.{put_on, Passes, AtSome, Peels}
use Rattle.affix_strip.specs.Peeling.{IsPeeled, ArePeeled, may_undo_at}
use Rattle.affix_strip.proofs.UndoneWords.{LeadsBack, undone_at}
use Rattle.affix_strip.proofs.InverseLemmas.{undone_at-inverse}
use Rattle.affix_strip.proofs.PeelLemmas.{leaves-undone, undone-had}

pub none-put : (lexicon : Lexicon) (side : Side) (word : Option (List ℕ))
    → put_on lexicon side None word ≡ word
none-put lexicon side None = refl
none-put lexicon side (Some word) = refl

-- which affix of a derivation this is: its side, the rule that is named, and the word that it is
-- attached to
pub record IsAffix (lexicon : Lexicon) (side : Side) (named : Derivation → Option ℕ) : Type 0 where
  pub right : (d : Derivation) → is_licensed lexicon d ≡ true
      → is_right lexicon.affixes.rules side (named d) ≡ true

module _ (lexicon : Lexicon) (side : Side) (named : Derivation → Option ℕ)
    (affix : IsAffix lexicon side named) (before : Derivation → Option (List ℕ)) where
  abbrev after : Derivation → Option (List ℕ)
  after d = put_on lexicon side (named d) (before d)

  -- no rule is named
  pub step-none : (parts : Derivation → Type 0) → ((d : Derivation) → parts d → named d ≡ None)
      → (text : List ℕ) (d : Derivation) → Passes lexicon parts before text d
      ↔ Passes lexicon parts after text d
  step-none parts none text d = (
    λ passes. record {
      licensed = passes.licensed;
      has = passes.has;
      at = same (none d passes.has)
          ∙ passes.at;
    },
    λ passes. record {
      licensed = passes.licensed;
      has = passes.has;
      at = sym (same (none d passes.has)) ∙ passes.at;
    },
  )
    where
      same : named d ≡ None → after d ≡ before d
      same is = ap (λ n. put_on lexicon side n (before d)) is ∙ none-put lexicon side (before d)

  -- the word that a rule made comes from the one that is left when it is undone
  record Peeled (place : ℕ) (text : List ℕ) (d : Derivation) : Type 0 where
    inner : List ℕ
    undone : undone_at lexicon.affixes side place text ≡ Some inner
    left : before d ≡ Some inner

  right-at : (place : ℕ) (d : Derivation) → is_licensed lexicon d ≡ true → named d ≡ Some place
      → is_right lexicon.affixes.rules side (Some place) ≡ true
  right-at place d licensed is =
      ap (is_right lexicon.affixes.rules side) (sym is) ∙ affix.right d licensed

  peel : LeadsBack → (place : ℕ) (text : List ℕ) (d : Derivation) → is_licensed lexicon d ≡ true
      → named d ≡ Some place → after d ≡ Some text → Peeled place text d
  peel leads_back place text d licensed is made =
      option_and_then_some
      (with_affix lexicon.affixes.options.full_strip
      (affix_on lexicon.affixes.rules side (Some place))) (before d) text
      (ap (λ n. put_on lexicon side n (before d)) (sym is) ∙ made) (λ inner left put. record {
        inner = inner;
        undone = ((undone_at-inverse leads_back lexicon.affixes side place
            (right-at place d licensed is)).is inner text).1 put;
        left = left;
      })

  put-back : LeadsBack → (place : ℕ) (text inner : List ℕ) (d : Derivation)
      → is_licensed lexicon d ≡ true → named d ≡ Some place
      → undone_at lexicon.affixes side place text ≡ Some inner → before d ≡ Some inner
      → after d ≡ Some text
  put-back leads_back place text inner d licensed is undone left =
      ap (λ n. put_on lexicon side n (before d)) is
      ∙ ap (put_on lexicon side (Some place)) left
      ∙ ((undone_at-inverse leads_back lexicon.affixes side place (right-at place d licensed is)).is
      inner text).0 undone

  pub step-some : LeadsBack → (parts : Derivation → Type 0) (place : ℕ)
      → ((d : Derivation) → parts d → named d ≡ Some place) → (text inner : List ℕ)
      → undone_at lexicon.affixes side place text ≡ Some inner → (d : Derivation)
      → Passes lexicon parts before inner d ↔ Passes lexicon parts after text d
  step-some leads_back parts place some text inner undone d = (
    λ passes. record {
      licensed = passes.licensed;
      has = passes.has;
      at = put-back leads_back place text inner d passes.licensed (some d passes.has) undone
          passes.at;
    },
    λ passes. record {
      licensed = passes.licensed;
      has = passes.has;
      at = left passes
          (peel leads_back place text d passes.licensed (some d passes.has) passes.at);
    },
  )
    where
      left : Passes lexicon parts after text d → Peeled place text d → before d ≡ Some inner
      left passes peeled = peeled.left ∙ sym peeled.undone ∙ undone

  -- the derivations on this way whose affix is one of the rules that may have made the word are all
  -- that have one
  pub step-peeled : LeadsBack
      → (parts : Derivation → Type 0) (text : List ℕ) (found : List (List ℕ × List ℕ))
      → ArePeeled lexicon.affixes.rules side text found
      → (d : Derivation) → AtSome (Peels lexicon side named parts before) found d
      ↔ Passes lexicon (λ d. parts d × (is_some (named d) ≡ true)) after text d
  step-peeled leads_back parts text found are d =
      (λ some. there some, λ passes. back passes (named d) refl)
    where
      own : (place : ℕ)
          → ((e : Derivation) → parts e × (named e ≡ Some place) → named e ≡ Some place)
      own place e has = has.1

      there : AtSome (Peels lexicon side named parts before) found d
          → Passes lexicon (λ d. parts d × (is_some (named d) ≡ true)) after text d
      there some =
          let at = some.is in
          let undone =
          leaves-undone lexicon.affixes side text at.item some.item.0
          (are.sound some.item at.item some.among at.among)
          ∙ ap (λ b. if b then Some some.item.0 else None) at.is.0 in
          let passes =
          (step-some leads_back (λ e. parts e × (named e ≡ Some at.item)) at.item
          (own at.item) text some.item.0 undone d).0 at.is.1 in
          record {
            licensed = passes.licensed;
            has = (passes.has.0, ap is_some passes.has.1);
            at = passes.at;
          }

      -- what is left of the word is that of a group which has the rule
      inside : (place : ℕ) → Passes lexicon (λ d. parts d × (is_some (named d) ≡ true)) after text d
          → named d ≡ Some place → Peeled place text d → IsPeeled found place
          → AtSome (Peels lexicon side named parts before) found d
      inside place passes is left group =
          let undone =
          sym (leaves-undone lexicon.affixes side text place group.peeled.0
          (are.sound group.peeled place group.among group.has)) ∙ left.undone in
          let both = cond_some (may_undo_at lexicon.affixes side group.peeled.0 place)
          group.peeled.0 left.inner undone in
          record {
            item = group.peeled;
            among = group.among;
            is = record {
              item = place;
              among = group.has;
              is = (
                both.0,
                record {
                  licensed = passes.licensed;
                  has = (passes.has.0, is);
                  at = left.left
                      ∙ ap (λ w. Some w) (sym both.1);
                },
              );
            };
          }

      had : (place : ℕ) → Peeled place text d → IsPeeled found place
      had place left =
          let rule = undone-had lexicon.affixes side place text left.inner left.undone in
          are.all place rule.rule rule.on rule.has

      back : Passes lexicon (λ d. parts d × (is_some (named d) ≡ true)) after text d
          → (n : Option ℕ) → named d ≡ n → AtSome (Peels lexicon side named parts before) found d
      back passes None is = absurd (true≢false (sym passes.has.1 ∙ ap is_some is))
      back passes (Some place) is =
          let left = peel leads_back place text d passes.licensed is passes.at in
          inside place passes is left (had place left)
