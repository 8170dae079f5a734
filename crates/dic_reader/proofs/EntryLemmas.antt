-- The word, the flags and the faults of an entry.
use Rattle.std.proofs.Common.{◌≡◌, ◌≢◌, ℕ, ◌==◌, Bool, true, false, cond, List, [], ◌∷◌, ◌++◌}
use Rattle.std.proofs.Common.{◌<◌, length, map, Option, Some, None, Result, Ok, Err, Bor, unwrap_or}
use Rattle.std.proofs.Common.{refl, sym, ap}
use Rattle.std.proofs.Common.{◌∙◌, subst, append_assoc, lit<, arith}
use Rattle.std.specs.List.{AllByRecursion}
use Rattle.std.specs.Option.{option_copied}
use Rattle.std.specs.Str.{chars, IsUtf8}
use Rattle.std.proofs.lemmas.Bool.{ne_eqb}
use Rattle.std.proofs.lemmas.Bool.Decides.{Decides-eqb}
use Rattle.std.proofs.lemmas.Str.{chars-nil, encodes-chars}
use lib.Utf8.{encodes}
use Rattle.std.proofs.lemmas.Str.{chars-append, IsUtf8-encode, encode_ascii}
use Rattle.spell_types.specs.declared.Affixes.{Affixes}
use Rattle.flag_sets.specs.Slashes.{before_slash, behind_slash}
use Rattle.dic_reader.specs.declared.faults.DicWhy.{DicWhy}
use Rattle.dic_reader.specs.declared.faults.DicWhy.TheVariants.{EmptyWord, BadFlag, BadAlias}
use Rattle.flag_sets.specs.declared.FlagFault.TheVariants.{BadAlias as NoAlias, BadFlag as NoFlag}
use Rattle.flag_sets.specs.declared.FlagFault.TheVariants.{NoMemory as Wanting}
use Rattle.dic_reader.specs.Entries.{Listed, entry_at, flag_text_of_entry, whole_word}
use Rattle.dic_reader.specs.Entries.{word_of_entry, flags_of_entry}
use Rattle.dic_reader.specs.Faults.{DicFaultAtLine, dic_cause_number, least_dic_fault, word_faults}
use Rattle.dic_reader.specs.Faults.{flag_whys}
use Rattle.dic_reader.specs.Faults.{or_none, told_at, IsTold}
use Rattle.flag_sets.specs.declared.FlagFault.{FlagFault}
use Rattle.flag_sets.specs.FlagTexts.{flag_field}
use Rattle.spell_types.specs.declared.Entry.{Entry}
use Rattle.spell_types.specs.declared.flags.Flag.{Flag}
use Rattle.dic_reader.specs.Faults.{flag_faults, entry_faults, entry_said, entry_read}
use Rattle.dic_reader.proofs.FaultLemmas.{flags-behind-word}
use Rattle.line_faults.specs.Faults.{fault_at, unless_fault}
use Rattle.line_faults.specs.Laws.{none-before-stays}
use Rattle.text_lines.specs.lists.Laws.{each-append}

-- ---- the word and the flags of an entry

only-slash : chars (47 ∷ []) ≡ 47 ∷ []
unfolding chars
only-slash = refl

slash-char : (text : List ℕ) → chars (47 ∷ text) ≡ 47 ∷ chars text
slash-char text =
    chars-append (47 ∷ []) text (subst IsUtf8 (encode_ascii 47 (lit< tt)) (IsUtf8-encode 47 refl))
    ∙ ap (λ cs. cs ++ chars text) only-slash

-- behind a slash at the front
pub front-word : (old word new entry : List ℕ) (rest stripped : Bor (List ℕ))
    → entry ≡ 47 ∷ stripped.now → rest ≡ stripped
    → word ≡ old ++ 47 ∷ [] → new ≡ word ++ chars (before_slash rest.now)
    → new ≡ old ++ whole_word entry
front-word old word new entry rest stripped is same begun grown =
    grown
    ∙ ap (λ w. w ++ chars (before_slash rest.now)) begun
    ∙ append_assoc old (47 ∷ []) (chars (before_slash rest.now))
    ∙ ap (λ r. old ++ 47 ∷ chars (before_slash r.now)) same
    ∙ ap (λ cs. old ++ cs) (sym (ap whole_word is ∙ slash-char (before_slash stripped.now)))

opened : (found : Option (Bor (List ℕ))) (place : _)
    → (unwrap_or found (record { ref_ptr = place; now = [] })).now ≡ unwrap_or (option_copied found)
    []
opened None place = refl
opened (Some text) place = refl

pub front-flags : (entry : List ℕ) (rest stripped result : Bor (List ℕ))
    (found : Option (Bor (List ℕ))) (place : _) → entry ≡ 47 ∷ stripped.now → rest ≡ stripped
    → option_copied found ≡ behind_slash rest.now
    → result ≡ unwrap_or found (record { ref_ptr = place; now = [] }) → result.now ≡ flag_text_of_entry entry
front-flags entry rest stripped result found place is same behind given =
    ap (λ r. r.now) given ∙ opened found place
    ∙ ap (λ o. unwrap_or o []) (behind ∙ ap (λ r. behind_slash r.now) same)
    ∙ sym (ap flag_text_of_entry is)

-- where no slash stands at the front
plain-word-of : (entry : List ℕ) → ((rest : List ℕ) → entry ≢ 47 ∷ rest)
    → whole_word entry ≡ chars (before_slash entry)
plain-word-of [] plain = refl
plain-word-of (c ∷ more) plain =
    ap (λ t. chars (cond t (c ∷ before_slash more) (before_slash (c ∷ more))))
    (ne_eqb c 47 (λ is. plain more (ap (λ n. n ∷ more) is)))

plain-flag-text : (entry : List ℕ) → ((rest : List ℕ) → entry ≢ 47 ∷ rest)
    → flag_text_of_entry entry ≡ unwrap_or (behind_slash entry) []
plain-flag-text [] plain = refl
plain-flag-text (c ∷ more) plain =
    ap (λ t. unwrap_or (behind_slash (cond t more (c ∷ more))) [])
    (ne_eqb c 47 (λ is. plain more (ap (λ n. n ∷ more) is)))

pub plain-word : (old word new : List ℕ) (rest entry : Bor (List ℕ))
    → ((more : List ℕ) → entry.now ≢ 47 ∷ more) → rest ≡ entry
    → word ≡ old → new ≡ word ++ chars (before_slash rest.now) → new ≡ old ++ whole_word entry.now
plain-word old word new rest entry plain same begun grown =
    grown
    ∙ ap (λ w. w ++ chars (before_slash rest.now)) begun
    ∙ ap (λ r. old ++ chars (before_slash r.now)) same
    ∙ ap (λ cs. old ++ cs) (sym (plain-word-of entry.now plain))

pub plain-flags : (rest entry result : Bor (List ℕ)) (found : Option (Bor (List ℕ))) (place : _)
    → ((more : List ℕ) → entry.now ≢ 47 ∷ more) → rest ≡ entry
    → option_copied found ≡ behind_slash rest.now
    → result ≡ unwrap_or found (record { ref_ptr = place; now = [] })
    → result.now ≡ flag_text_of_entry entry.now
plain-flags rest entry result found place plain same behind given =
    ap (λ r. r.now) given ∙ opened found place
    ∙ ap (λ o. unwrap_or o []) (behind ∙ ap (λ r. behind_slash r.now) same)
    ∙ sym (plain-flag-text entry.now plain)

-- ---- the faults of one entry are all at its line

abbrev pub IsAtLine : ℕ → DicFaultAtLine → Type 0
IsAtLine number fault = fault.line ≡ number

word-faults-at : (number : ℕ) (empty : Bool)
    → AllByRecursion (IsAtLine number) (cond empty (fault_at number EmptyWord ∷ []) [])
word-faults-at number true = (refl, tt)
word-faults-at number false = tt

flag-faults-at : (number : ℕ) (whys : List DicWhy)
    → AllByRecursion (IsAtLine number) (map (fault_at number) whys)
flag-faults-at number [] = tt
flag-faults-at number (why ∷ more) = (refl, flag-faults-at number more)

pub faults-at : (affixes : Affixes) (entry : Listed)
    → AllByRecursion (IsAtLine entry.number) (entry_faults affixes entry)
faults-at affixes entry =
    each-append (IsAtLine entry.number) (word_faults affixes entry) (flag_faults affixes entry)
    (word-faults-at entry.number (length (word_of_entry affixes entry.text) == 0))
    (flag-faults-at entry.number (flag_whys (flags_of_entry affixes entry.text)))

-- an entry without a word, whatever its flags are
pub no-word : (affixes : Affixes) (number : ℕ) (text word : List ℕ)
    → word ≡ word_of_entry affixes text
    → (length word == 0) ≡ true
    → entry_read affixes (entry_at number text) ≡ Err (fault_at number EmptyWord)
no-word affixes number text word is empty =
    let fault = fault_at number EmptyWord in
    let flags = flag_faults affixes (entry_at number text) in
    ap (λ w. unless_fault (least_dic_fault (cond (length w == 0) (fault ∷ []) [] ++ flags))
    (entry_said affixes (entry_at number text))) (sym is)
    ∙ ap (λ b. unless_fault (least_dic_fault (cond b (fault ∷ []) [] ++ flags))
    (entry_said affixes (entry_at number text))) empty
    ∙ ap (λ o. unless_fault o (entry_said affixes (entry_at number text)))
    (none-before-stays dic_cause_number fault flags
    (flags-behind-word number (flags_of_entry affixes text)))

-- ---- whether a word has characters
pub no-characters : (bytes : List ℕ) → true ≡ (length bytes == 0)
    → (length (chars bytes) == 0) ≡ true
no-characters [] is = ap (λ cs. length cs == 0) chars-nil
no-characters (b ∷ bytes) is = absurd (omega (arith, (Decides-eqb _ _).0 (sym is)))

pub some-characters : (bytes : List ℕ) → IsUtf8 bytes → (length bytes == 0) ≡ false
    → 0 < length (chars bytes)
some-characters bytes utf8 isnt = go bytes (chars bytes) (encodes-chars bytes utf8) isnt
  where
    go : (text cs : List ℕ) → encodes cs ≡ text → (length text == 0) ≡ false → 0 < length cs
    go [] [] is none = absurd (cc)
    go (b ∷ text) [] is none = absurd (cc)
    go text (c ∷ cs) is some = omega arith

-- an entry with a word and right flags
pub read-well : (affixes : Affixes) (number : ℕ) (text : List ℕ) (made : Entry)
    → made.word ≡ word_of_entry affixes text → 0 < length made.word
    → flag_field affixes.kind affixes.aliases (flag_text_of_entry text) ≡ Ok made.flags
    → entry_read affixes (entry_at number text) ≡ Ok made
read-well affixes number text made word some field =
    let whole = word_of_entry affixes text in
    let full : (length whole == 0) ≡ false =
    ne_eqb (length whole) 0 (λ none. omega (arith, some, ap length word, none)) in
    let faults : Result (List Flag) FlagFault → List DicFaultAtLine =
    λ found. map (fault_at number) (flag_whys found) in
    ap (λ b. unless_fault
    (least_dic_fault (cond b (fault_at number EmptyWord ∷ []) [] ++ faults (flags_of_entry affixes text)))
    (record { word = whole; flags = or_none (flags_of_entry affixes text) })) full
    ∙ ap (λ found. unless_fault (least_dic_fault (faults found))
    (record { word = whole; flags = or_none found })) field
    ∙ ap (λ w. Ok (record { word = w; flags = made.flags })) (sym word)

-- an entry with a word and wrong flags
pub read-ill : (affixes : Affixes) (number : ℕ) (text word : List ℕ) (fault : FlagFault)
    (why : DicWhy) → word ≡ word_of_entry affixes text → 0 < length word
    → flag_field affixes.kind affixes.aliases (flag_text_of_entry text) ≡ Err fault
    → flag_whys (Err fault) ≡ why ∷ []
    → entry_read affixes (entry_at number text) ≡ Err (fault_at number why)
read-ill affixes number text word fault why is some field whys =
    let whole = word_of_entry affixes text in
    let full : (length whole == 0) ≡ false =
    ne_eqb (length whole) 0 (λ none. omega (arith, some, ap length is, none)) in
    let faults : Result (List Flag) FlagFault → List DicFaultAtLine =
    λ found. map (fault_at number) (flag_whys found) in
    ap (λ b. unless_fault
    (least_dic_fault (cond b (fault_at number EmptyWord ∷ []) [] ++ faults (flags_of_entry affixes text)))
    (record { word = whole; flags = or_none (flags_of_entry affixes text) })) full
    ∙ ap (λ found. unless_fault (least_dic_fault (faults found))
    (record { word = whole; flags = or_none found })) field
    ∙ ap (λ ws. unless_fault (least_dic_fault (map (fault_at number) ws))
    (record { word = whole; flags = [] })) whys

pub told-ill : (affixes : Affixes) (number : ℕ) (text word : List ℕ) (fault : FlagFault)
    → word ≡ word_of_entry affixes text → 0 < length word
    → (fault ≢ Wanting → flag_field affixes.kind affixes.aliases (flag_text_of_entry text) ≡ Err fault)
    → IsTold (entry_read affixes (entry_at number text)) (told_at number fault)
told-ill affixes number text word Wanting is some field = tt
told-ill affixes number text word NoFlag is some field =
    read-ill affixes number text word NoFlag BadFlag is some (field (λ same. cc)) refl
told-ill affixes number text word NoAlias is some field =
    read-ill affixes number text word NoAlias BadAlias is some (field (λ same. cc)) refl
