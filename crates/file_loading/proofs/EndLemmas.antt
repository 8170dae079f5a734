-- No failure has the status 0.
use Rattle.std.proofs.Common.{◌≡◌, ◌∙◌, ℕ, ◌==◌, false, List, Option, refl, ap}
use Rattle.own_dictionary.specs.dictionary_swap.declared.fault.LoadFault.TheVariants.{Failed as FailedLoad}
use Rattle.own_dictionary.specs.dictionary_swap.declared.fault.LoadFault.TheVariants.{Aff}
use Rattle.own_dictionary.specs.dictionary_swap.declared.fault.LoadFault.TheVariants.{Dic, Missing}
use Rattle.own_dictionary.specs.dictionary_swap.declared.fault.LoadFault.TheVariants.{TooLong}
use Rattle.own_dictionary.specs.dictionary_swap.declared.fault.LoadFault.TheVariants.{NoMemory as LoadWanting}
use Rattle.document_report.specs.declared.fault.DocumentFault.TheVariants.{LongParagraph, NotUtf8}
use Rattle.document_report.specs.declared.fault.DocumentFault.TheVariants.{TooManyParagraphs}
use Rattle.document_report.specs.declared.fault.DocumentFault.TheVariants.{NoMemory as ReportWanting}
use Rattle.file_loading.specs.Ends.{IsPut, Whole, Cut}
use Rattle.file_loading.specs.Failures.{status_of}
use Rattle.file_loading.specs.declared.failure.Failure.{Failure}
use Rattle.file_loading.specs.declared.failure.Failure.TheVariants.{Words, Load, Document, Input}
use Rattle.file_loading.specs.declared.failure.Failure.TheVariants.{Limit, ManyForms, NoMemory, Own}
use Rattle.file_loading.specs.declared.failure.Failure.TheVariants.{Script}

-- no failure has it
pub failure-nonzero : (failure : Failure) → (status_of failure == 0) ≡ false
failure-nonzero Words = refl
failure-nonzero (Load (Aff line why)) = refl
failure-nonzero (Load (Dic line why)) = refl
failure-nonzero (Load FailedLoad) = refl
failure-nonzero (Load Missing) = refl
failure-nonzero (Load (TooLong limit)) = refl
failure-nonzero (Load LoadWanting) = refl
failure-nonzero (Own line why) = refl
failure-nonzero (Document (NotUtf8 line)) = refl
failure-nonzero (Document (TooManyParagraphs limit)) = refl
failure-nonzero (Document (LongParagraph limit)) = refl
failure-nonzero (Document ReportWanting) = refl
failure-nonzero (ManyForms limit) = refl
failure-nonzero (Script line) = refl
failure-nonzero Input = refl
failure-nonzero (Limit limit) = refl
failure-nonzero NoMemory = refl

-- no text that is put by another status has it
pub put-nonzero : {meant status : ℕ} {text : List ℕ} {sink_failed : Type 0}
    {before now : Option (List ℕ)} → IsPut meant text sink_failed before now status
    → (meant == 0) ≡ false → (status == 0) ≡ false
put-nonzero (Whole is put) other = ap (λ n. n == 0) is ∙ other
put-nonzero (Cut failed is put) other = ap (λ n. n == 0) is
