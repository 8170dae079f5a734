-- Words of no form are told, and nothing else.
use Rattle.std.proofs.Common.{[], arith, refl}
use Rattle.outside.specs.Laws.{appends-none}
use Rattle.file_loading.specs.EndLaws.{ends-behind}
use Rattle.file_loading.specs.declared.ending.End.TheVariants.{Failed}
use Rattle.file_loading.specs.declared.failure.Failure.TheVariants.{Words}
use Rattle.command_line.proofs.top_call.tell_words.Goals as goal

pub returns-clause-due : goal.returns-clause-due
returns-clause-due g c = λ folder files reading untouched.
    ends-behind [] (Failed Words) (λ failed. failed)
    (appends-none (g.K.Sink.written c.args.out.now)) (record {
      answer = refl;
      caused = record {
        words = λ is. refl;
        files = λ is. absurd (cc);
        input = λ is. absurd (cc);
        alone = λ is. refl;
      };
      input = untouched;
      files = refl;
    }) c.put_end.ensures.puts

pub returns-clause-complete : goal.returns-clause-complete
returns-clause-complete g c = λ met same.
    ends-behind [] (Failed Words) (λ failed. omega (arith, failed, same))
    (appends-none (g.K.Sink.written c.args.out.now)) tt c.put_end.ensures.puts
