-- What a status and a text tell of how a call ended.
use Rattle.std.proofs.Common.{◌≡◌, ◌∙◌, ◌⊎◌, inl, inr, ℕ, zero, suc, ◌<◌, false, List, [], ◌++◌}
use Rattle.std.proofs.Common.{Bool, Option, None, refl, sym, ap, subst, arith}
use Rattle.outside.specs.Sink.{Appends}
use Rattle.dictionary_swap.specs.declared.fault.LoadFault.TheVariants.{Failed as FailedLoad}
use Rattle.dictionary_swap.specs.declared.fault.LoadFault.TheVariants.{Missing}
use Rattle.document_report.specs.declared.fault.DocumentFault.TheVariants.{NoMemory as ReportWanting}
use Rattle.file_loading.specs.Ends.{EndsAs, IsOrWanting, IsPut, Whole, Cut, sink_status, status_at}
use Rattle.file_loading.specs.Ends.{tail_of}
use Rattle.file_loading.specs.Failures.{last_line}
use Rattle.command_line.specs.Forms.{IsAnswerTo}
use Rattle.file_loading.specs.Forms.{Form, IsAnswerBy, Met, is_the_only_line}
use Rattle.command_line.specs.declared.requests.Request.{Request}
use Rattle.file_loading.specs.declared.ending.End.{End}
use Rattle.file_loading.specs.declared.ending.End.TheVariants.{Failed, Quiet, Marked}
use Rattle.file_loading.specs.declared.failure.Failure.TheVariants.{Words, Load, Document, Input}
use Rattle.std.specs.Prelude.{is_some, Some}

-- what a status tells of an end
abbrev Tells : ℕ → End → Type 0
Tells zero end = Unit {0}
Tells (suc zero) end = Unit {0}
Tells (suc (suc zero)) end = end ≡ Failed Words
Tells (suc (suc (suc zero))) end = Unit {0}
Tells (suc (suc (suc (suc zero)))) end = Unit {0}
Tells (suc (suc (suc (suc (suc zero))))) end =
    (end ≡ Failed (Load FailedLoad)) ⊎ ((end ≡ Failed (Load Missing)) ⊎ (end ≡ Failed Input))
Tells (suc (suc (suc (suc (suc (suc zero)))))) end = ⊥
Tells (suc (suc (suc (suc (suc (suc (suc n))))))) end = Unit {0}

told : (end : End) → Tells (status_at end) end
told (Failed Words) = refl
told (Failed (Load FailedLoad)) = inl refl
told (Failed (Load Missing)) = inr (inl refl)
told (Failed Input) = inr (inr refl)
told (Failed (Document ReportWanting)) = tt
told _ = tt

-- the status of a sink that failed tells that it did
pub six-is-sink : {answers : List ℕ → End → Type 0} {sink_failed : Type 0}
    {before now : Option (List ℕ)} {status : ℕ}
    → EndsAs answers sink_failed before now status → status ≡ sink_status → sink_failed
six-is-sink ends six = by ends.end ends.put six
  where
    by : {sink_failed : Type 0} {text : List ℕ} {before now : Option (List ℕ)} {status : ℕ}
        (end : End)
        → IsPut (status_at end) text sink_failed before now status → status ≡ sink_status
        → sink_failed
    by end (Whole is put) six = absurd (subst (λ n. Tells n end) (sym is ∙ six) (told end))
    by end (Cut failed is put) six = failed

-- a status that is neither that of a sink that failed nor that of want of memory is that of the end
-- that is due
due-told : {answers : List ℕ → End → Type 0} {sink_failed : Type 0} {before now : Option (List ℕ)}
    {status : ℕ} (meant : ℕ)
    → ¬ (meant ≡ 6) → ¬ (meant ≡ 7) → (ends : EndsAs answers sink_failed before now status)
    → status ≡ meant
    → Tells meant ends.due × Appends before now (ends.text ++ tail_of ends.due)
due-told meant not_sink not_memory ends is = by ends.text ends.due ends.end ends.end_is ends.put is
  where
    as_due : {status : ℕ} (before now : Option (List ℕ)) (text : List ℕ) (due end : End)
        → due ≡ end → status ≡ status_at end → Appends before now (text ++ tail_of end)
        → status ≡ meant → Tells meant due × Appends before now (text ++ tail_of due)
    as_due before now text due end same told_as put is = (
      subst (λ n. Tells n due) (ap status_at same ∙ sym told_as ∙ is) (told due),
      subst (λ end. Appends before now (text ++ tail_of end)) (sym same) put,
    )

    by : {sink_failed : Type 0} {before now : Option (List ℕ)} {status : ℕ} (text : List ℕ)
        (due end : End) → IsOrWanting due end
        → IsPut (status_at end) (text ++ tail_of end) sink_failed before now status → status ≡ meant
        → Tells meant due × Appends before now (text ++ tail_of due)
    by text due end end_is (Cut failed six put) is = absurd (not_sink (sym is ∙ six))
    by {before = before} {now = now} text Quiet end same (Whole told_as put) is =
        as_due before now text Quiet end (sym same) told_as put is
    by {before = before} {now = now} text Marked end same (Whole told_as put) is =
        as_due before now text Marked end (sym same) told_as put is
    by text (Failed failure) end (inl wanting) (Whole told_as put) is =
        absurd (not_memory (sym is ∙ told_as ∙ ap status_at wanting))
    by {before = before} {now = now} text (Failed failure) end (inr found) (Whole told_as put) is =
        as_due before now text (Failed failure) end (cc) told_as put is

has-no-form : (asked : Option Request) → is_some asked ≡ false → asked ≡ None
has-no-form None none = refl
has-no-form (Some request) none = absurd (cc)

-- words of no form alone have the status 2
pub two-has-no-form : {asked : Option Request} {met : Met} {sink_failed : Type 0}
    {before now : Option (List ℕ)} {status : ℕ}
    → EndsAs (IsAnswerTo asked met) sink_failed before now status → status ≡ 2 → asked ≡ None
two-has-no-form {asked} ends two =
    has-no-form asked
    (ends.answer.caused.words (due-told 2 (omega arith) (omega arith) ends two).0)

-- files that failed, an input that failed, and a file that is not there alone have the status 5
abbrev pub IsFive : Met → Option (List ℕ) → Option (List ℕ) → Type 0
IsFive met before now = (met.files_before < met.files_after)
    ⊎ ((met.reading.faults_before < met.reading.faults_after)
    ⊎ Appends before now (last_line (Load Missing)))

pub five-has-cause : {has_form : Bool} {form : Form} {met : Met} {sink_failed : Type 0}
    {before now : Option (List ℕ)} {status : ℕ}
    → EndsAs (IsAnswerBy has_form form met) sink_failed before now status → status ≡ 5
    → IsFive met before now
five-has-cause {met = met} {before = before} {now = now} ends five = by told_is.0
  where
    told_is : Tells 5 ends.due × Appends before now (ends.text ++ tail_of ends.due)
    told_is = due-told 5 (omega arith) (omega arith) ends five

    by : Tells 5 ends.due → IsFive met before now
    by (inl files) = inl (ends.answer.caused.files files)
    by (inr (inl missing)) =
        let alone : ends.text ≡ [] = ends.answer.caused.alone (ap is_the_only_line missing) in
        inr (inr (subst (λ end. Appends before now (tail_of end)) missing
        (subst (λ text. Appends before now (text ++ tail_of ends.due)) alone told_is.1)))
    by (inr (inr input)) = inr (inl (ends.answer.caused.input input))
