-- Texts that are put one after another.
use Rattle.std.proofs.Common.{◌≡◌, ◌∙◌, ℕ, ◌+◌, ◌<◌, List, ◌∷◌, ◌++◌, length, get_or, take, drop}
use Rattle.std.proofs.Common.{map, Option, sym, ap, subst, append_assoc, String, Global, refl}
use Rattle.std.proofs.Common.{append-nil}
use Rattle.std.proofs.lemmas.List.{drop_more, map-append, take-append-drop}
use Rattle.std.proofs.lemmas.List.Concat.{flat_map-append}
use Rattle.std.specs.List.{flat_map}
use Rattle.std.specs.String.{string_bytes}
use Rattle.outside.specs.Laws.{appends-front, front-longer}
use Rattle.outside.specs.Sink.{Appends, AppendsFront}
use Rattle.file_loading.specs.Ends.{EndsAs, IsPut}
use Rattle.file_loading.specs.declared.ending.End.{End}
use Rattle.file_loading.specs.declared.ending.End.TheVariants.{Quiet}
use Rattle.file_loading.specs.EndLaws.{put-sooner}

-- texts, one behind another
abbrev pub joined : List (String Global) → List ℕ
joined texts = flat_map (λ one. one) (map string_bytes texts)

joined-append : (front back : List (String Global))
    → joined (front ++ back) ≡ joined front ++ joined back
joined-append front back =
    ap (flat_map (λ one. one)) (map-append string_bytes front back)
    ∙ flat_map-append (λ one. one) (map string_bytes front) (map string_bytes back)

-- where one is cut off, a front of all is put
pub text-cut : (before middle now : Option (List ℕ)) (texts : List (String Global)) (place : ℕ)
    (text : String Global) (last : List ℕ) → place < length texts
    → text ≡ get_or texts place text → Appends before middle (joined (take place texts))
    → AppendsFront middle now (string_bytes text) → AppendsFront before now (joined texts ++ last)
text-cut before middle now texts place text last inside same put cut =
    let first = joined (take place texts) in
    let behind = joined (drop (place + 1) texts) in
    let back : text ∷ drop (place + 1) texts ≡ drop place texts =
    ap (λ first. first ∷ drop (place + 1) texts) same
    ∙ sym (drop_more texts place text inside) in
    let all : first ++ (string_bytes text ++ behind) ≡ joined texts =
    sym (joined-append (take place texts) (text ∷ drop (place + 1) texts))
    ∙ ap (λ back. joined (take place texts ++ back)) back
    ∙ ap joined (take-append-drop place texts) in
    let longer : (first ++ string_bytes text) ++ (behind ++ last) ≡ joined texts ++ last =
    sym (append_assoc (first ++ string_bytes text) behind last)
    ∙ ap (λ front. front ++ last) (append_assoc first (string_bytes text) behind ∙ all) in
    subst (AppendsFront before now) longer
    (front-longer before now (first ++ string_bytes text) (behind ++ last)
    (appends-front before middle now first (string_bytes text) put cut))

-- a text is put, and nothing behind it
pub all-put : {sink_failed whole_failed : Type 0} {answers : List ℕ → End → Type 0}
    {before now : Option (List ℕ)} {status : ℕ} (text : List ℕ)
    → (sink_failed → whole_failed) → answers text Quiet
    → IsPut 0 text sink_failed before now status
    → EndsAs answers whole_failed before now status
all-put text fails is put = record {
  text = text;
  due = Quiet;
  answer = is;
  end = Quiet;
  end_is = refl;
  put = rw (append-nil text) (put-sooner fails put);
}
