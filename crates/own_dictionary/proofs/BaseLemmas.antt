-- A dictionary that was extended has its base still.
use Rattle.std.proofs.Common.{◌≡◌, ◌∙◌, ap, sym, subst, ℕ, List, length, map}
use Rattle.std.proofs.Math.Seq.{take-append_seam}
use Rattle.personal_words.specs.declared.items.OwnItem.{OwnItem}
use Rattle.personal_words.specs.Extended.{entry_of_item, extended}
use Rattle.spell_types.specs.declared.Lexicon.{Lexicon}
use Rattle.personal_words.specs.Dictionaries.{IsLoadedBase, OwnSeen, in_force}
use Rattle.personal_words.specs.Lists.{added}
use Rattle.own_dictionary.specs.Bases.{IsExtended, base_in}

pub base-kept : (base : Lexicon) (own : List OwnItem)
    → base_in (extended base own) (length base.entries) base.affixes.signs.forbidden ≡ base
unfolding extended
base-kept base own =
    ap (λ entries. record base { entries = entries })
    (take-append_seam base.entries (map (entry_of_item base) own))

-- what is made of a base has the base, if it is that extended by a list
pub base-of : (base made : Lexicon) (own : List OwnItem) (count : ℕ) → made ≡ extended base own
    → count ≡ length base.entries → base_in made count base.affixes.signs.forbidden ≡ base
base-of base made own count is counted =
    ap (λ lexicon. base_in lexicon count base.affixes.signs.forbidden) is
    ∙ ap (λ n. base_in (extended base own) n base.affixes.signs.forbidden) counted
    ∙ base-kept base own

pub made-extended : (base made : Lexicon) (own : List OwnItem) (count : ℕ)
    → made ≡ extended base own → count ≡ length base.entries → IsLoadedBase base
    → IsExtended made count base.affixes.signs.forbidden own
made-extended base made own count is counted ready =
    let kept = base-of base made own count is counted in
    record {
      lexicon_is = is ∙ ap (λ lexicon. extended lexicon own) (sym kept);
      base = subst IsLoadedBase (sym kept) ready;
    }

-- what a line adds does not depend on the words that extend the base
pub same-added : (dictionary : OwnSeen) (text : List ℕ) {lexicon : Lexicon} {own : List OwnItem}
    → lexicon ≡ in_force dictionary → own ≡ dictionary.own
    → added lexicon.affixes own text ≡ added dictionary.base.affixes dictionary.own text
unfolding added extended
same-added dictionary text is also = λ i. added (is i).affixes (also i) text
