-- Flag texts that are kept with the places of entries.
use Rattle.std.proofs.Common.{◌≡◌, ◌∙◌, refl, sym, ap, subst, ℕ, zero, suc, Bool, true, false, cond}
use Rattle.std.proofs.Common.{List, [], ◌∷◌, ◌++◌, length, slice_get, Some, Bor, Result, Ok, Err}
use Rattle.std.proofs.Common.{OnOk}
use Rattle.std.specs.Option.{option_map_or}
use Rattle.std.specs.Str.{bytes_eq}
use Rattle.std.proofs.lemmas.Option.{same_Some, slice_get_within}
use Rattle.std.proofs.lemmas.Slice.Eq.{bytes_eq-Decides}
use Rattle.indexmap.specs.IndexMap.{IndexMap, get}
use Rattle.spell_types.specs.declared.Affixes.{Affixes}
use Rattle.spell_types.specs.declared.Entry.{Entry}
use Rattle.spell_types.specs.Flags.{AreOrdinary}
use Rattle.spell_types.specs.Sanity.{HasOrdinaryFlags}
use Rattle.dic_reader.specs.declared.known_sets.Flags.{Flags}
use Rattle.dic_reader.specs.declared.known_sets.Flags.TheVariants.{Like, New}
use Rattle.dic_reader.specs.KnownSets.{IsSetOf, HasFlagsOf, AreKnown, AreFlagsOf, IsLikePlaced}
use Rattle.dic_reader.specs.KnownSets.{flags_in}

abbrev same_text : Bor (List ℕ) → Bor (List ℕ) → Bool
same_text key other = bytes_eq key.now other.now

-- ---- entries behind those that are there
still-at : {X : Type 0} (xs ys : List X) (place : ℕ) (x : X) → slice_get xs place ≡ Some x
    → slice_get (xs ++ ys) place ≡ Some x
still-at [] ys place x at = absurd (cc)
still-at (first ∷ xs) ys zero x at = at
still-at (first ∷ xs) ys (suc place) x at = still-at xs ys place x at

last-at : {X : Type 0} (xs : List X) (x : X) → slice_get (xs ++ x ∷ []) (length xs) ≡ Some x
last-at [] x = refl
last-at (first ∷ xs) x = last-at xs x

pub flags-stay : (affixes : Affixes) (entries more : List Entry) (text : List ℕ) (place : ℕ)
    → HasFlagsOf affixes entries text place → HasFlagsOf affixes (entries ++ more) text place
flags-stay affixes entries more text place has = record {
  entry = has.entry;
  at = still-at entries more place has.entry has.at;
  set = has.set;
}

pub known-stay : {S : Type 0} (affixes : Affixes) (entries now : List Entry) (entry : Entry)
    (known : IndexMap (Bor (List ℕ)) ℕ S) → now ≡ entries ++ entry ∷ []
    → AreKnown affixes entries known → AreKnown affixes now known
known-stay affixes entries now entry known is are text place at =
    subst (λ es. HasFlagsOf affixes es text.now place) (sym is)
    (flags-stay affixes entries (entry ∷ []) text.now place (are text place at))

-- ---- the flags that were found
pub flags-placed : (affixes : Affixes) (entries : List Entry) (text : List ℕ) (flags : Flags)
    → AreFlagsOf affixes entries text flags → IsLikePlaced entries flags
flags-placed affixes entries text (Like place) has =
    slice_get_within entries place has.entry has.at
flags-placed affixes entries text (New own set) is = tt

pub flags-set : (affixes : Affixes) (entries : List Entry) (text : List ℕ) (flags : Flags)
    → AreFlagsOf affixes entries text flags → IsSetOf affixes text (flags_in entries flags)
flags-set affixes entries text (Like place) has =
    subst (IsSetOf affixes text) (sym (ap (λ o. option_map_or (λ entry. entry.flags) o []) has.at))
    has.set
flags-set affixes entries text (New own set) is = is.1

pub flags-ordinary : (affixes : Affixes) (entries : List Entry) (text : List ℕ) (flags : Flags)
    → AreFlagsOf affixes entries text flags → HasOrdinaryFlags affixes
    → AreOrdinary (flags_in entries flags)
flags-ordinary affixes entries text flags are =
    (flags-set affixes entries text flags are).ordinary

pub on-ok : {A E : Type 0} {P Q : Type 0} (told : Result A E) → (P → Q) → OnOk told P → OnOk told Q
on-ok (Ok done) gives holds = gives holds
on-ok (Err why) gives holds = tt

-- with one text more, which may have been kept before
pub known-more : {S : Type 0} (affixes : Affixes) (entries now : List Entry) (entry : Entry)
    (old new : IndexMap (Bor (List ℕ)) ℕ S) (key : Bor (List ℕ)) (last : ℕ)
    → ((text : Bor (List ℕ)) → get same_text new text
    ≡ cond (same_text key text) (Some last) (get same_text old text))
    → last ≡ length entries → now ≡ entries ++ entry ∷ []
    → IsSetOf affixes key.now entry.flags → AreKnown affixes entries old → AreKnown affixes now new
known-more affixes entries now entry old new key last grown counts is set are text place at =
    by (same_text key text) refl (sym (grown text) ∙ at)
  where
    by : (same : Bool) → same_text key text ≡ same
        → cond same (Some last) (get same_text old text) ≡ Some place
        → HasFlagsOf affixes now text.now place
    by true same has =
        let here : place ≡ length entries = sym (same_Some last place has) ∙ counts in record {
          entry = entry;
          at = ap (λ n. slice_get now n) here ∙ ap (λ es. slice_get es (length entries)) is
              ∙ last-at entries entry;
          set = subst (λ bytes. IsSetOf affixes bytes entry.flags)
              ((bytes_eq-Decides key.now text.now).0 same) set;
        }
    by false differs has =
        known-stay affixes entries now entry old is are text place has
