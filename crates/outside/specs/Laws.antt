-- What is put to a sink and taken from a source piece by piece.
use Rattle.std.specs.Prelude.{ℕ, ◌+◌, List, [], ◌++◌, length, min, take, Option, Some, None}
use Rattle.std.proofs.Common.{◌∙◌, refl, sym, ap, subst, append-nil, append_assoc, arith}
use Rattle.std.proofs.Math.Seq.{take-append-add}
use Rattle.std.proofs.lemmas.List.{take-append-le, take_min}
use Rattle.outside.specs.Sink.{Appends, AppendsFront}
use Rattle.outside.specs.Source.{Takes, IsEndOf, IsToldBytes}

-- ---- a sink

-- what is put behind something else
pub appends-more : (before middle after : Option (List ℕ)) (first later : List ℕ)
    → Appends before middle first → Appends middle after later
    → Appends before after (first ++ later)
appends-more before middle None first later put more = tt
appends-more before None (Some now) first later put more = absurd more
appends-more None (Some written) (Some now) first later put more = absurd put
appends-more (Some start) (Some written) (Some now) first later put more =
    more ∙ ap (λ w. w ++ later) put ∙ append_assoc start first later

-- where nothing is put, nothing is appended
pub appends-none : (before : Option (List ℕ)) → Appends before before []
appends-none None = tt
appends-none (Some written) = sym (append-nil written)

-- a front is put behind something else
pub appends-front : (before middle after : Option (List ℕ)) (first later : List ℕ)
    → Appends before middle first → AppendsFront middle after later
    → AppendsFront before after (first ++ later)
appends-front before middle after first later put (taken, more) = (
  length first + taken,
  subst (Appends before after) (sym (take-append-add first later taken))
      (appends-more before middle after first (take taken later) put more),
)

-- a front of something is one of all that begins with it
pub front-longer : (before after : Option (List ℕ)) (first later : List ℕ)
    → AppendsFront before after first → AppendsFront before after (first ++ later)
front-longer before after first later (taken, put) =
    let count : ℕ = min taken (length first) in (
      count,
      subst (Appends before after)
          (sym (take-append-le count first later (omega arith) ∙ take_min taken first)) put,
    )

-- ---- a source

-- what is taken behind something else
pub takes-more : (before middle after : Option (List ℕ)) (first later : List ℕ)
    → Takes before middle first → Takes middle after later → Takes before after (first ++ later)
takes-more None middle after first later took more = tt
takes-more (Some start) None after first later took more = absurd took
takes-more (Some start) (Some left) None first later took more = absurd more
takes-more (Some start) (Some left) (Some rest) first later took more =
    took ∙ ap (λ l. first ++ l) more ∙ sym (append_assoc first later rest)

-- nothing is taken
pub takes-none : (before : Option (List ℕ)) → Takes before before []
takes-none None = tt
takes-none (Some left) = refl

-- at its end all was taken that a source told
pub takes-all : (before after : Option (List ℕ)) (taken : List ℕ) → Takes before after taken
    → IsEndOf after 0 → IsToldBytes before taken
takes-all None after taken took ends = tt
takes-all (Some told) None taken took ends = absurd took
takes-all (Some told) (Some rest) taken took ends =
    sym (took ∙ ap (λ left. taken ++ left) (ends.0 refl) ∙ append-nil taken)

-- what was taken is the front of all that a source told
pub takes-front : (before after : Option (List ℕ)) (taken : List ℕ) → Takes before after taken
    → (rest : List ℕ) × IsToldBytes before (taken ++ rest)
takes-front None after taken took = ([], tt)
takes-front (Some told) None taken took = absurd took
takes-front (Some told) (Some rest) taken took = (rest, sym took)
