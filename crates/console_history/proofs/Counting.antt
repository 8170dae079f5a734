-- What an eye counts beside what it knows.
use Rattle.std.proofs.Common.{◌≡◌, ◌∙◌, sym, ap, subst, ℕ, ◌+◌, ◌≤◌, List, [], ◌∷◌, ◌++◌}
use Rattle.std.proofs.Common.{length, not, false, append_assoc, append-nil, length-append}
use Rattle.std.proofs.Common.{arith}
use Rattle.std.specs.Prelude.{if◌then◌else◌}
use Rattle.std.specs.List.{AllByRecursion, sum_by}
use Rattle.std.proofs.lemmas.Bool.{true≢false}
use Rattle.board_share.specs.edit_core.Events.{SeenEvent, AnEdit, ALoad, AClaim, AFinish, APark}
use Rattle.board_share.specs.edit_core.Events.{AnAsk, kind_of}
use Rattle.board_share.specs.edit_core.Runs.{AreSteps, Entry, all_kinds, asked_of, entries_by}
use Rattle.board_share.specs.edit_core.Runs.{entries_through, is_quiet, last_board}
use Rattle.board_share.specs.edit_core.Seen.{Seen}
use Rattle.board_share.specs.edit_core.declared.event.EventKind.{EventKind}
use Rattle.board_share.specs.edit_core.declared.event.EventKind.TheVariants as kind
use Rattle.board_share.specs.Eyes.{EyeSeen, IsCounted, IsLater, counted, entries_in, events_in}
use Rattle.board_share.specs.Eyes.{last_of}
use Rattle.board_share.specs.declared.counts.Counts.{Counts}
use Rattle.board_share.specs.declared.told.Told.{Told as ToldOf}
use Rattle.board_share.specs.Eyes.{CountsChecks}
use Rattle.console_history.specs.Told.{Looks, Publishes, Settles}
use Rattle.console_history.proofs.Stretches.{CoreLaws, IsIdle, all-through, each-part}

-- behind all that an eye knew stands a stretch, with at least as many events as were counted
pub record GoesOn (old new : EyeSeen) : Type 0 where
  pub number : new.number ≡ old.number
  pub opening : new.run.opening ≡ old.run.opening
  pub part : List Entry
  pub entries : new.run.entries ≡ old.run.entries ++ part
  pub asked : events_in new.counts ≤ events_in old.counts + asked_of part
  pub all : entries_in new.counts ≤ entries_in old.counts + length part

-- what an eye knows has at least as many events as it counts
pub record HasCounted (eye : EyeSeen) : Type 0 where
  pub asked : events_in eye.counts ≤ asked_of eye.run.entries
  pub all : entries_in eye.counts ≤ length eye.run.entries

-- it is a history, and nothing is asked in it but what the eye counts; without workers it has no
-- more events at all, and each came through the eye's number
pub record HasNoMore (workers : ℕ) (eye : EyeSeen) : Type 0 where
  pub asked : asked_of eye.run.entries ≤ events_in eye.counts
  pub all : workers ≡ 0 → length eye.run.entries ≤ entries_in eye.counts
  pub own : workers ≡ 0 → AllByRecursion (λ entry. entry.by ≡ eye.number) eye.run.entries
  pub steps : AreSteps eye.run.opening eye.run.entries

-- an eye comes to know an idle stretch
pub record TakesIn (workers : ℕ) (old new : EyeSeen) : Type 0 where
  pub opening : new.run.opening ≡ old.run.opening
  pub part : List Entry
  pub entries : new.run.entries ≡ old.run.entries ++ part
  pub idle : IsIdle workers part

-- an eye comes to know an idle stretch and, behind it, its own event
pub record TakesOwn (workers : ℕ) (event : SeenEvent) (old new : EyeSeen) (told : ToldOf) : Type
    0 where
  pub opening : new.run.opening ≡ old.run.opening
  pub between : List Entry
  pub board : Seen
  pub entries : new.run.entries ≡ old.run.entries
      ++ (between ++ record { by = old.number; event = event; board = board } ∷ [])
  pub idle : IsIdle workers between
  pub text : told.text ≡ board.text_version
  pub dict : told.dict ≡ board.dict_version

-- the eye comes to know a stretch that is followed in some way
pub record StretchOf (old new : EyeSeen) (does : List Entry → Type 0) : Type 0 where
  pub part : List Entry
  pub entries : new.run.entries ≡ old.run.entries ++ part
  pub followed : does part

pub followed-as : {old new : EyeSeen} {does also : List Entry → Type 0} → StretchOf old new does
    → ((part : List Entry) → does part → also part) → StretchOf old new also
followed-as stretch weaker = record {
  part = stretch.part;
  entries = stretch.entries;
  followed = weaker stretch.part stretch.followed;
}

-- ---- numbers
at-most : (m n p : ℕ) → m ≡ n → m ≤ n + p
at-most m n p is = omega (arith, is)

one-at-most : (m n p q : ℕ) → m ≡ n + 1 → p ≡ q + 1 → m ≤ n + p
one-at-most m n p q is more = omega (arith, is, more)

longer-by : (m n p x y : ℕ) → m + y ≤ n + x → n ≡ m + p → y ≤ x + p
longer-by m n p x y longer is = omega (arith, longer, is)

apart-by : (m n p x y : ℕ) → y + m ≤ n + x → n ≡ m + p → y ≤ x + p
apart-by m n p x y apart is = omega (arith, apart, is)

sum-on : (x y z m n : ℕ) → y ≤ x + m → z ≤ y + n → z ≤ x + (m + n)
sum-on x y z m n first second = omega (arith, first, second)

counted-up : (x y m n p : ℕ) → x ≤ m → y ≤ x + p → n ≡ m + p → y ≤ n
counted-up x y m n p few more is = omega (arith, few, more, is)

no-more-back : (x y m n p : ℕ) → n ≤ y → y ≤ x + p → n ≡ m + p → m ≤ x
no-more-back x y m n p few more is = omega (arith, few, more, is)

none-left : (x y m n p : ℕ) → x ≤ m → n ≤ y → n ≡ m + p → y ≡ x → p ≡ 0
none-left x y m n p few most is same = omega (arith, few, most, is, same)

one-left : (x y m n p q : ℕ) → x ≤ m → n ≤ y → n ≡ m + p → p ≡ q + 1 → y ≡ x + 1 → q ≡ 0
one-left x y m n p q few most is one more = omega (arith, few, most, is, one, more)

sum-same : (a b c x y z : ℕ) → a ≡ x → b ≡ y → c ≡ z → a + (b + c) ≡ x + (y + z)
sum-same a b c x y z first second third = cc

-- ---- counts
pub entries-counted : (asked : EventKind) (counts : Counts)
    → entries_in (counted asked counts) ≡ entries_in counts + 1
entries-counted kind.Edit counts = omega arith
entries-counted kind.Load counts = omega arith
entries-counted kind.Park counts = omega arith
entries-counted kind.Ask counts = omega arith
entries-counted kind.Claim counts = omega arith
entries-counted kind.Finish counts = omega arith

pub events-counted : (event : SeenEvent) (counts : Counts) → is_quiet event ≡ false
    → events_in (counted (kind_of event) counts) ≡ events_in counts + 1
events-counted (AnEdit session edit) counts asked = omega arith
events-counted (ALoad lexicon) counts asked = omega arith
events-counted (APark session id) counts asked = omega arith
events-counted (AnAsk session id) counts asked = omega arith
events-counted (AClaim worker id rev) counts asked = absurd (true≢false asked)
events-counted (AFinish worker id rev dict text lexicon) counts asked =
    absurd (true≢false asked)

-- no event was counted that is asked for
pub checks-asked : (old new : EyeSeen) → CountsChecks old new
    → events_in new.counts ≡ events_in old.counts
checks-asked old new counts =
    sum-same new.counts.edits new.counts.loads new.counts.asks old.counts.edits old.counts.loads
    old.counts.asks counts.edits counts.loads counts.asks

-- the entries through a number are those of the six kinds together
abbrev pub KindsAddUp : Type 0
KindsAddUp = (by : ℕ) (entries : List Entry)
    → entries_through by entries ≡ sum_by (λ asked. entries_by asked by entries) all_kinds

-- as many entries came through a number as were counted, or more
counted-through : KindsAddUp → (by : ℕ) (entries : List Entry) (counts : Counts)
    → IsCounted by entries counts → entries_in counts ≤ entries_through by entries
counted-through kinds by entries counts is =
    let n = λ (asked : EventKind). entries_by asked by entries in
    let through : entries_through by entries ≡ 0 + n kind.Edit + n kind.Load + n kind.Claim
    + n kind.Finish + n kind.Park + n kind.Ask = kinds by entries in
    omega (arith, through, is.edits, is.loads, is.asks, is.checks)

-- where no more is known than was counted through a number, each event came through it
pub all-counted : KindsAddUp → (by : ℕ) (entries : List Entry) (counts : Counts)
    → IsCounted by entries counts → length entries ≤ entries_in counts
    → AllByRecursion (λ entry. entry.by ≡ by) entries
all-counted kinds by entries counts is few =
    let through = counted-through kinds by entries counts is in
    all-through by entries (omega (arith, through, few))

-- where all that an eye knows came through a number, so did what it knew and the stretch behind it
pub own-on : (old new : EyeSeen) (part : List Entry) → new.run.entries ≡ old.run.entries ++ part
    → AllByRecursion (λ entry. entry.by ≡ new.number) new.run.entries
    → AllByRecursion (λ entry. entry.by ≡ new.number) old.run.entries
    × AllByRecursion (λ entry. entry.by ≡ new.number) part
own-on old new part is own =
    each-part (λ (entry : Entry). entry.by ≡ new.number) old.run.entries part
    (subst (AllByRecursion (λ (entry : Entry). entry.by ≡ new.number)) is own)

module _ (laws : CoreLaws) where
  pub asked-on : (old new : EyeSeen) (part : List Entry)
      → new.run.entries ≡ old.run.entries ++ part
      → asked_of new.run.entries ≡ asked_of old.run.entries + asked_of part
  asked-on old new part is = ap asked_of is ∙ laws.asked old.run.entries part

  pub length-on : (old new : EyeSeen) (part : List Entry)
      → new.run.entries ≡ old.run.entries ++ part
      → length new.run.entries ≡ length old.run.entries + length part
  length-on old new part is = ap length is ∙ length-append old.run.entries part

  -- where the eye looks on, its last board is the last of the stretch
  pub last-on : (old new : EyeSeen) (part : List Entry) → new.run.opening ≡ old.run.opening
      → new.run.entries ≡ old.run.entries ++ part
      → last_of new.run ≡ last_board (last_of old.run) part
  last-on old new part opening is =
      ap (λ (board : Seen). last_board board new.run.entries) opening
      ∙ ap (last_board old.run.opening) is
      ∙ laws.last old.run.opening old.run.entries part

  pub steps-on : {workers : ℕ} (old new : EyeSeen) (part : List Entry) → HasNoMore workers new
      → new.run.opening ≡ old.run.opening → new.run.entries ≡ old.run.entries ++ part
      → AreSteps old.run.opening old.run.entries × AreSteps (last_of old.run) part
  steps-on old new part most opening is =
      laws.apart old.run.opening old.run.entries part
      (subst (AreSteps old.run.opening) is
      (subst (λ (board : Seen). AreSteps board new.run.entries) opening most.steps))

  -- ---- an eye goes on
  pub goes-self : (old new : EyeSeen) → new ≡ old → GoesOn old new
  goes-self old new is = record {
    number = ap (λ (eye : EyeSeen). eye.number) is;
    opening = ap (λ (eye : EyeSeen). eye.run.opening) is;
    part = [];
    entries = ap (λ (eye : EyeSeen). eye.run.entries) is ∙ sym (append-nil old.run.entries);
    asked = at-most (events_in new.counts) (events_in old.counts) 0
        (ap (λ (eye : EyeSeen). events_in eye.counts) is);
    all = at-most (entries_in new.counts) (entries_in old.counts) 0
        (ap (λ (eye : EyeSeen). entries_in eye.counts) is);
  }

  pub goes-trans : (old middle new : EyeSeen) → GoesOn old middle → GoesOn middle new
      → GoesOn old new
  goes-trans old middle new first second = record {
    number = second.number ∙ first.number;
    opening = second.opening ∙ first.opening;
    part = first.part ++ second.part;
    entries = second.entries ∙ ap (λ front. front ++ second.part) first.entries
        ∙ append_assoc old.run.entries first.part second.part;
    asked = subst (λ n. events_in new.counts ≤ events_in old.counts + n)
        (sym (laws.asked first.part second.part))
        (sum-on (events_in old.counts) (events_in middle.counts) (events_in new.counts)
        (asked_of first.part) (asked_of second.part) first.asked second.asked);
    all = subst (λ n. entries_in new.counts ≤ entries_in old.counts + n)
        (sym (length-append first.part second.part))
        (sum-on (entries_in old.counts) (entries_in middle.counts) (entries_in new.counts)
        (length first.part) (length second.part) first.all second.all);
  }

  -- where no event was counted that is asked for
  pub goes-later : (old new : EyeSeen) → IsLater old new
      → events_in new.counts ≡ events_in old.counts → GoesOn old new
  goes-later old new later same =
      let part = later.begins.0 in
      let is : new.run.entries ≡ old.run.entries ++ part = sym later.begins.1 in record {
        number = later.number;
        opening = later.opening;
        part = part;
        entries = is;
        asked = at-most (events_in new.counts) (events_in old.counts) (asked_of part) same;
        all = longer-by (length old.run.entries) (length new.run.entries) (length part)
            (entries_in old.counts) (entries_in new.counts) later.longer
            (length-on old new part is);
      }

  -- where no more were counted that are asked for than came to be known
  pub goes-apart : (old new : EyeSeen) → IsLater old new
      → events_in new.counts + asked_of old.run.entries
      ≤ asked_of new.run.entries + events_in old.counts
      → GoesOn old new
  goes-apart old new later apart =
      let part = later.begins.0 in
      let is : new.run.entries ≡ old.run.entries ++ part = sym later.begins.1 in record {
        number = later.number;
        opening = later.opening;
        part = part;
        entries = is;
        asked = apart-by (asked_of old.run.entries) (asked_of new.run.entries)
            (asked_of part) (events_in old.counts) (events_in new.counts) apart
            (asked-on old new part is);
        all = longer-by (length old.run.entries) (length new.run.entries) (length part)
            (entries_in old.counts) (entries_in new.counts) later.longer
            (length-on old new part is);
      }

  pub goes-looks : (old new : EyeSeen) → Looks old new → GoesOn old new
  goes-looks old new looks = goes-later old new looks.later (ap events_in looks.counts)

  pub goes-settles : (old new : EyeSeen) → Settles old new → GoesOn old new
  goes-settles old new settles =
      goes-later old new settles.later (checks-asked old new settles.counts)

  -- how many are asked in a stretch that ends with one
  asked-own : (between : List Entry) (entry : Entry) → is_quiet entry.event ≡ false
      → asked_of (between ++ entry ∷ []) ≡ asked_of between + 1
  asked-own between entry asked =
      laws.asked between (entry ∷ [])
      ∙ ap (λ n. asked_of between + n)
      (laws.asked_one entry ∙ ap (λ b. if not b then 1 else 0) asked)

  pub goes-publishes : (event : SeenEvent) (old new : EyeSeen) (told : ToldOf)
      → is_quiet event ≡ false → Publishes event old new told → GoesOn old new
  goes-publishes event old new told asked publishes =
      let later = publishes.later in
      let published = publishes.published in
      let own : Entry =
      record { by = old.number; event = event; board = published.board } in
      let part = published.between ++ own ∷ [] in
      let is : new.run.entries ≡ old.run.entries ++ part =
      published.entries ∙ append_assoc old.run.entries published.between (own ∷ []) in record {
        number = later.number;
        opening = later.opening;
        part = part;
        entries = is;
        asked = one-at-most (events_in new.counts) (events_in old.counts) (asked_of part)
            (asked_of published.between)
            (ap events_in publishes.counts ∙ events-counted event old.counts asked)
            (asked-own published.between own asked);
        all = longer-by (length old.run.entries) (length new.run.entries) (length part)
            (entries_in old.counts) (entries_in new.counts) later.longer
            (length-on old new part is);
      }

  -- ---- what is counted in between
  pub counted-on : (old new : EyeSeen) → GoesOn old new → HasCounted old → HasCounted new
  counted-on old new goes least = record {
    asked = counted-up (events_in old.counts) (events_in new.counts) (asked_of old.run.entries)
        (asked_of new.run.entries) (asked_of goes.part) least.asked goes.asked
        (asked-on old new goes.part goes.entries);
    all = counted-up (entries_in old.counts) (entries_in new.counts) (length old.run.entries)
        (length new.run.entries) (length goes.part) least.all goes.all
        (length-on old new goes.part goes.entries);
  }

  pub no-more-before : {workers : ℕ} (old new : EyeSeen) → GoesOn old new
      → HasNoMore workers new → HasNoMore workers old
  no-more-before old new goes most = record {
    asked = no-more-back (events_in old.counts) (events_in new.counts)
        (asked_of old.run.entries) (asked_of new.run.entries) (asked_of goes.part) most.asked
        goes.asked (asked-on old new goes.part goes.entries);
    all = λ none. no-more-back (entries_in old.counts) (entries_in new.counts)
        (length old.run.entries) (length new.run.entries) (length goes.part) (most.all none)
        goes.all (length-on old new goes.part goes.entries);
    own = λ none. subst (λ n. AllByRecursion (λ (entry : Entry). entry.by ≡ n) old.run.entries)
        goes.number (own-on old new goes.part goes.entries (most.own none)).0;
    steps = (steps-on old new goes.part most goes.opening goes.entries).0;
  }

  -- where no event was counted that is asked for, none is in the stretch
  asked-none : {workers : ℕ} (old new : EyeSeen) (part : List Entry)
      → new.run.entries ≡ old.run.entries ++ part
      → events_in new.counts ≡ events_in old.counts → HasCounted old → HasNoMore workers new
      → asked_of part ≡ 0
  asked-none old new part is same least most =
      none-left (events_in old.counts) (events_in new.counts) (asked_of old.run.entries)
      (asked_of new.run.entries) (asked_of part) least.asked most.asked
      (asked-on old new part is) same

  pub looks-in : (workers : ℕ) (old new : EyeSeen) → Looks old new → HasCounted old
      → HasNoMore workers new → TakesIn workers old new
  looks-in workers old new looks least most =
      let part = looks.later.begins.0 in
      let is : new.run.entries ≡ old.run.entries ++ part = sym looks.later.begins.1 in record {
        opening = looks.later.opening;
        part = part;
        entries = is;
        idle = record {
          asked = asked-none old new part is (ap events_in looks.counts) least most;
          empty = λ none. none-left (entries_in old.counts) (entries_in new.counts)
              (length old.run.entries) (length new.run.entries) (length part) least.all
              (most.all none) (length-on old new part is) (ap entries_in looks.counts);
        };
      }

  pub settles-none : {workers : ℕ} (old new : EyeSeen) (part : List Entry)
      → new.run.entries ≡ old.run.entries ++ part
      → CountsChecks old new → HasCounted old → HasNoMore workers new → asked_of part ≡ 0
  settles-none old new part is counts least most =
      asked-none old new part is (checks-asked old new counts) least most

  pub publishes-own : (workers : ℕ) (event : SeenEvent) (old new : EyeSeen) (told : ToldOf)
      → is_quiet event ≡ false → Publishes event old new told → HasCounted old
      → HasNoMore workers new → TakesOwn workers event old new told
  publishes-own workers event old new told asked publishes least most =
      let published = publishes.published in
      let between = published.between in
      let own : Entry =
      record { by = old.number; event = event; board = published.board } in
      let part = between ++ own ∷ [] in
      let is : new.run.entries ≡ old.run.entries ++ part =
      published.entries ∙ append_assoc old.run.entries between (own ∷ []) in record {
        opening = publishes.later.opening;
        between = between;
        board = published.board;
        entries = is;
        idle = record {
          asked = one-left (events_in old.counts) (events_in new.counts)
              (asked_of old.run.entries) (asked_of new.run.entries) (asked_of part)
              (asked_of between) least.asked most.asked (asked-on old new part is)
              (asked-own between own asked)
              (ap events_in publishes.counts ∙ events-counted event old.counts asked);
          empty = λ none. one-left (entries_in old.counts) (entries_in new.counts)
              (length old.run.entries) (length new.run.entries) (length part) (length between)
              least.all (most.all none) (length-on old new part is)
              (length-append between (own ∷ []))
              (ap entries_in publishes.counts ∙ entries-counted (kind_of event) old.counts);
        };
        text = ap (λ (t : ToldOf). t.text) published.told_is;
        dict = ap (λ (t : ToldOf). t.dict) published.told_is;
      }
