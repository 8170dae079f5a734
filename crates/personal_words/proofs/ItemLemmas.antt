-- The word and the model of an item.
use Rattle.std.proofs.Common.{◌≡◌, ◌≢◌, ℕ, ◌<◌, ◌==◌, ◌||◌, Bool, false, cond, List, [], ◌∷◌}
use Rattle.std.proofs.Common.{◌++◌, length, Option, Bor, refl, sym, ap, ◌∙◌, subst, append_assoc}
use Rattle.std.proofs.Common.{lit<, arith, Result, Ok, Err}
use Rattle.std.specs.Option.{option_copied, option_map_or}
use Rattle.std.specs.Result.{IfOk, OnOk}
use Rattle.std.specs.Str.{chars, IsUtf8}
use Rattle.std.proofs.lemmas.Bool.{ne_eqb}
use Rattle.std.proofs.lemmas.Str.{chars-append, IsUtf8-encode, encode_ascii}
use Rattle.flag_sets.specs.Slashes.{before_slash, behind_slash}
use Rattle.personal_words.specs.declared.items.OwnItem.{OwnItem}
use Rattle.personal_words.specs.Items.{word_text, model_text, prohibiting, adding, item_said}
use Rattle.personal_words.specs.Items.{lacks_text, is_nothing}

-- ---- the star

-- behind a star the item prohibits, and elsewhere it adds
pub said-behind : (ignore text said : List ℕ) → text ≡ 42 ∷ said
    → item_said ignore text ≡ prohibiting ignore said
unfolding item_said
said-behind ignore text said is = ap (item_said ignore) is

pub said-without : (ignore text : List ℕ) → ((said : List ℕ) → text ≢ 42 ∷ said)
    → item_said ignore text ≡ adding ignore text
unfolding item_said
said-without ignore [] plain = refl
said-without ignore (c ∷ more) plain =
    ap (λ t. cond t (prohibiting ignore (cond t more (c ∷ more))) (adding ignore (c ∷ more)))
    (ne_eqb c 42 (λ is. plain more (ap (λ n. n ∷ more) is)))

-- ---- the word and the model

only-slash : chars (47 ∷ []) ≡ 47 ∷ []
unfolding chars
only-slash = refl

slash-char : (text : List ℕ) → chars (47 ∷ text) ≡ 47 ∷ chars text
slash-char text =
    chars-append (47 ∷ []) text (subst IsUtf8 (encode_ascii 47 (lit< tt)) (IsUtf8-encode 47 refl))
    ∙ ap (λ cs. cs ++ chars text) only-slash

-- behind a slash at the front
pub front-word : (old word new said : List ℕ) (rest stripped : Bor (List ℕ))
    → said ≡ 47 ∷ stripped.now → rest ≡ stripped
    → word ≡ old ++ 47 ∷ [] → new ≡ word ++ chars (before_slash rest.now)
    → new ≡ old ++ chars (word_text said)
front-word old word new said rest stripped is same begun grown =
    grown
    ∙ ap (λ w. w ++ chars (before_slash rest.now)) begun
    ∙ append_assoc old (47 ∷ []) (chars (before_slash rest.now))
    ∙ ap (λ r. old ++ 47 ∷ chars (before_slash r.now)) same
    ∙ ap (λ cs. old ++ cs)
    (sym (ap (λ t. chars (word_text t)) is ∙ slash-char (before_slash stripped.now)))

pub front-model : (said : List ℕ) (rest stripped : Bor (List ℕ)) (found : Option (Bor (List ℕ)))
    → said ≡ 47 ∷ stripped.now → rest ≡ stripped
    → option_copied found ≡ behind_slash rest.now
    → option_copied found ≡ model_text said
front-model said rest stripped found is same behind =
    behind ∙ ap (λ r. behind_slash r.now) same ∙ sym (ap model_text is)

-- where no slash stands at the front
plain-word-of : (said : List ℕ) → ((rest : List ℕ) → said ≢ 47 ∷ rest)
    → word_text said ≡ before_slash said
plain-word-of [] plain = refl
plain-word-of (c ∷ more) plain =
    ap (λ t. cond t (c ∷ before_slash more) (before_slash (c ∷ more)))
    (ne_eqb c 47 (λ is. plain more (ap (λ n. n ∷ more) is)))

plain-model-text : (said : List ℕ) → ((rest : List ℕ) → said ≢ 47 ∷ rest)
    → model_text said ≡ behind_slash said
plain-model-text [] plain = refl
plain-model-text (c ∷ more) plain =
    ap (λ t. behind_slash (cond t more (c ∷ more)))
    (ne_eqb c 47 (λ is. plain more (ap (λ n. n ∷ more) is)))

pub plain-word : (old word new : List ℕ) (rest said : Bor (List ℕ))
    → ((more : List ℕ) → said.now ≢ 47 ∷ more) → rest ≡ said
    → word ≡ old → new ≡ word ++ chars (before_slash rest.now)
    → new ≡ old ++ chars (word_text said.now)
plain-word old word new rest said plain same begun grown =
    grown
    ∙ ap (λ w. w ++ chars (before_slash rest.now)) begun
    ∙ ap (λ r. old ++ chars (before_slash r.now)) same
    ∙ ap (λ t. old ++ chars t) (sym (plain-word-of said.now plain))

pub plain-model : (rest said : Bor (List ℕ)) (found : Option (Bor (List ℕ)))
    → ((more : List ℕ) → said.now ≢ 47 ∷ more) → rest ≡ said
    → option_copied found ≡ behind_slash rest.now
    → option_copied found ≡ model_text said.now
plain-model rest said found plain same behind =
    behind ∙ ap (λ r. behind_slash r.now) same ∙ sym (plain-model-text said.now plain)

-- ---- an item that lacks no text has a word

pub has-word : (item : OwnItem) → lacks_text item ≡ false → 0 < length item.word
has-word item fine = at item.word (option_map_or is_nothing item.model false) fine
  where
    at : (word : List ℕ) (more : Bool) → (length word == 0) || more ≡ false → 0 < length word
    at [] more fine = absurd cc
    at (c ∷ word) more fine = omega arith

-- ---- what an answer that is handed on says
module _ {A E : Type 0} where
  pub on-ok : {P Q : Type 0} (result : Result A E) → (P → Q) → OnOk result P → OnOk result Q
  on-ok (Ok made) more is = more is
  on-ok (Err fault) more is = tt

  pub if-ok : {P Q : A → Type 0} (result : Result A E) → ((made : A) → P made → Q made)
      → IfOk result P → IfOk result Q
  if-ok (Ok made) more is = more made is
  if-ok (Err fault) more is = tt
