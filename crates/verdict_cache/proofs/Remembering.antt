-- What is remembered of a judge is the judge's, whatever is looked up and put.
use Rattle.std.proofs.Common.{◌≡◌, ◌∙◌, sym, ap, inl, inr, ℕ, Bool, true, List, Contains}
use Rattle.std.proofs.Common.{IfSome, Option, Some, None, Vec, Global, nat_eq}
use Rattle.std.specs.Cmp.Lexicographic.{pointwise, bytes_decides}
use Rattle.std.specs.Map.{lookup}
use Rattle.lru.specs.LruCache.{LruCache, promoted, put_entries}
use Rattle.lru.proofs.CallerLemmas.{Contains-lookup, Contains-promoted, Contains-put_entries}
use Rattle.mark_types.specs.spell_types.declared.Lexicon.{Lexicon}
use Rattle.mark_types.specs.spell_types.Yields.{yields}
use Rattle.verdict_cache.specs.Verdicts.{AreVerdicts}

-- whether a key is this word
abbrev pub is_word : List ℕ → Vec ℕ Global → Bool
is_word written word = pointwise nat_eq written word.items

same-word : (written : List ℕ) (word : Vec ℕ Global) → is_word written word ≡ true
    → word.items ≡ written
same-word written word same = sym ((bytes_decides written word.items).0 same)

-- a word that is found has the verdict that is the judge's
pub found-is : (lexicon : Lexicon) (entries : List (Vec ℕ Global × Bool)) (written : List ℕ)
    (found : Option Bool) → AreVerdicts lexicon entries → lookup (is_word written) entries ≡ found
    → IfSome found (λ answer. answer ≡ yields lexicon written)
found-is lexicon entries written None are is = tt
found-is lexicon entries written (Some answer) are is =
    let at = Contains-lookup (is_word written) entries answer is in
    are.each at.0 answer at.1 ∙ ap (yields lexicon) (same-word written at.0 at.2)

-- a word that was asked for goes first
pub promoted-are : (lexicon : Lexicon) (entries : List (Vec ℕ Global × Bool)) (written : List ℕ)
    → AreVerdicts lexicon entries → AreVerdicts lexicon (promoted (is_word written) entries)
promoted-are lexicon entries written are = record {
  each = λ word answer at.
      are.each word answer (Contains-promoted (is_word written) entries (word, answer) at);
}

-- a verdict that is the judge's is put
pub put-are : (lexicon : Lexicon) (cache : LruCache (Vec ℕ Global) Bool) (written : Vec ℕ Global)
    (given : Bool) → given ≡ yields lexicon written.items → AreVerdicts lexicon cache.entries
    → AreVerdicts lexicon (put_entries (λ word. is_word word.items) cache written given)
put-are lexicon cache written given is are = record { each = each }
  where
    each : (word : Vec ℕ Global) (answer : Bool)
        → Contains (put_entries (λ w. is_word w.items) cache written given) (word, answer)
        → answer ≡ yields lexicon word.items
    each word answer at =
        elim (Contains-put_entries (λ w. is_word w.items) cache written given (word, answer) at) [
          | inl there ↦ are.each word answer there
          | inr put ↦ elim put.1 [
            | inl same ↦ put.0 ∙ (is ∙ ap (λ w. yields lexicon w.items) (sym same))
            | inr there ↦
                put.0 ∙ (is ∙ ap (yields lexicon) (sym (same-word written.items word there.2)))
          ]
        ]
