-- How ends are put, one behind another, and what has no other cause.
use Rattle.std.proofs.Common.{Bool, ◌≡◌, ◌∙◌, ℕ, ◌<◌, true, false, List, ◌++◌, Option, sym, ap}
use Rattle.outside.specs.Laws.{appends-front, appends-more}
use Rattle.outside.specs.Sink.{Appends}
use Rattle.file_loading.specs.Ends.{EndsAs, IsEndPut, IsPut, Whole, Cut}
use Rattle.file_loading.specs.Forms.{IsCaused, Met, is_the_only_line}
use Rattle.file_loading.specs.declared.ending.End.{End}
use Rattle.file_loading.specs.declared.ending.End.TheVariants.{Failed}
use Rattle.file_loading.specs.declared.failure.Failure.TheVariants.{Input}

-- a sink that failed later has failed since
pub put-sooner : {sink_failed whole_failed : Type 0} {meant status : ℕ} {text : List ℕ}
    {before now : Option (List ℕ)}
    → (sink_failed → whole_failed) → IsPut meant text sink_failed before now status
    → IsPut meant text whole_failed before now status
put-sooner fails (Whole is put) = Whole is put
put-sooner fails (Cut failed is put) = Cut (fails failed) is put

-- a text is put behind another
put-behind : {sink_failed whole_failed : Type 0} {meant status : ℕ} {text : List ℕ}
    {before middle now : Option (List ℕ)} (first : List ℕ)
    → (sink_failed → whole_failed) → Appends before middle first
    → IsPut meant text sink_failed middle now status
    → IsPut meant (first ++ text) whole_failed before now status
put-behind {text = text} {before = before} {middle = middle} {now = now} first fails put
    (Whole is more) =
    Whole is (appends-more before middle now first text put more)
put-behind {text = text} {before = before} {middle = middle} {now = now} first fails put
    (Cut failed is more) =
    Cut (fails failed) is (appends-front before middle now first text put more)

-- what ends a call is put behind what it has written
pub ends-behind : {sink_failed whole_failed : Type 0} {answers : List ℕ → End → Type 0}
    {before middle now : Option (List ℕ)} {status : ℕ}
    (text : List ℕ) (due : End) → (sink_failed → whole_failed) → Appends before middle text → answers text due
    → IsEndPut due sink_failed middle now status
    → EndsAs answers whole_failed before now status
ends-behind text due fails put is (end, end_is, more) = record {
  text = text;
  due = due;
  answer = is;
  end = end;
  end_is = end_is;
  put = put-behind text fails put more;
}

-- what is an answer by one account is one by a weaker one
pub call-ends-weaker : {sink_failed whole_failed : Type 0} {answers others : List ℕ → End → Type 0}
    {before now : Option (List ℕ)} {status : ℕ}
    → (sink_failed → whole_failed)
    → ((text : List ℕ) (due : End) → answers text due → others text due)
    → EndsAs answers sink_failed before now status → EndsAs others whole_failed before now status
call-ends-weaker fails weak ends = record {
  text = ends.text;
  due = ends.due;
  answer = weak ends.text ends.due ends.answer;
  end = ends.end;
  end_is = ends.end_is;
  put = put-sooner fails ends.put;
}

-- an end that is not the only line, and is not that of a failed input, has no other cause
pub goes-on : {has_form : Bool} {met : Met} {text : List ℕ} {end : End}
    → is_the_only_line end ≡ false
    → (end ≡ Failed Input → met.reading.faults_before < met.reading.faults_after)
    → IsCaused has_form met text end
goes-on {end = end} more input = record {
  words = λ is. other (ap is_the_only_line is);
  files = λ is. other (ap is_the_only_line is);
  input = input;
  alone = λ is. other is;
}
  where
    other : {A : Type 0} → is_the_only_line end ≡ true → A
    other is = let never : true ≡ false = sym is ∙ more in absurd (cc)
