-- A dictionary with personal words is one as the readers give it.
use Rattle.std.proofs.Common.{ℕ, ◌≡◌, ◌∙◌, ◌<◌, ◌≤◌, ◌++◌, List, length, map, arith}
use Rattle.std.proofs.Common.{length-append, ap, sym, ◌∷◌, [], ◌+◌, take, get_or}
use Rattle.std.proofs.lemmas.List.{length-map, take_more, map-append}
use Rattle.std.proofs.lemmas.List.Elements.{All-append, All-map}
use Rattle.mark_types.specs.spell_types.declared.Affixes.{Affixes}
use Rattle.mark_types.specs.spell_types.declared.Entry.{Entry}
use Rattle.mark_types.specs.spell_types.declared.Lexicon.{Lexicon}
use Rattle.mark_types.specs.spell_types.declared.flags.Flag.{Flag}
use Rattle.mark_types.specs.spell_types.Sanity.{IsSane}
use Rattle.personal_words.specs.declared.items.OwnItem.{OwnItem}
use Rattle.personal_words.specs.Extended.{entry_of_item, extended, forbidding, with_forbidden}
use Rattle.personal_words.specs.Lists.{AreOwn}

abbrev pub lexicon_of : Affixes → List Entry → Lexicon
lexicon_of affixes entries = record { affixes = affixes; entries = entries }

abbrev has_word : Entry → Type 0
has_word entry = 0 < length entry.word

pub extended-sane : (lexicon : Lexicon) (own : List OwnItem) → IsSane lexicon
    → length lexicon.entries ≤ 1000000 → AreOwn own → IsSane (extended lexicon own)
unfolding extended
extended-sane lexicon own sane few are = record {
  affixes = record {
    few = sane.affixes.few;
    conversions = sane.affixes.conversions;
    reps = sane.affixes.reps;
    breaks = sane.affixes.breaks;
    compound_min = sane.affixes.compound_min;
  };
  entries = record {
    few = omega (
      arith,
      few,
      are.few,
      length-append lexicon.entries (map (entry_of_item lexicon) own),
      length-map own (entry_of_item lexicon),
    );
    words = All-append has_word lexicon.entries (map (entry_of_item lexicon) own)
        sane.entries.words (All-map has_word (entry_of_item lexicon) own are.words);
  };
}

-- the dictionary of these affixes and entries is the one that is asked for
pub is-extended : (lexicon : Lexicon) (own items : List OwnItem) (flag : Flag) (affixes : Affixes)
    (entries : List Entry) → flag ≡ forbidding lexicon → items ≡ own
    → affixes ≡ with_forbidden lexicon.affixes flag
    → entries ≡ lexicon.entries ++ map (entry_of_item lexicon) items
    → lexicon_of affixes entries ≡ extended lexicon own
unfolding extended
is-extended lexicon own items flag affixes entries is same by_flag each =
    ap (λ a. lexicon_of a entries) (by_flag ∙ ap (with_forbidden lexicon.affixes) is)
    ∙ ap (lexicon_of (with_forbidden lexicon.affixes (forbidding lexicon)))
    (each ∙ ap (λ own. lexicon.entries ++ map (entry_of_item lexicon) own) same)

-- one item more, and its entry
pub more-entries : (lexicon : Lexicon) (items : List OwnItem) (place : ℕ) (item : OwnItem)
    (old new : List Entry) (entry : Entry)
    → place < length items → item ≡ get_or items place item
    → old ≡ map (entry_of_item lexicon) (take place items)
    → entry ≡ entry_of_item lexicon item → new ≡ old ++ entry ∷ []
    → new ≡ map (entry_of_item lexicon) (take (place + 1) items)
more-entries lexicon items place item old new entry within is so_far made grown =
    let own = entry_of_item lexicon in
    let earlier = take place items in
    grown
    ∙ ap (λ es. es ++ entry ∷ []) so_far
    ∙ ap (λ e. map own earlier ++ e ∷ []) (made ∙ ap own is)
    ∙ (sym (ap (map own) (take_more items place item within)
    ∙ map-append own earlier (get_or items place item ∷ [])))
