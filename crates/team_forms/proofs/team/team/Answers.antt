-- The team is refused, or what its sessions were told is printed.
use Rattle.std.proofs.Common.{[], ap, arith, refl, Err}
use Rattle.outside.specs.Laws.{appends-none}
use Rattle.team_forms.specs.Forms.{NoneOfThem, WantingThen}
use Rattle.team_forms.proofs.PutLemmas.{all-put}
use Rattle.file_loading.specs.EndLaws.{ends-behind, goes-on}
use Rattle.team_forms.proofs.TeamLemmas.{team-answered, team-caused, team-not-answered}
use Rattle.team_forms.proofs.TeamLemmas.{team-not-whole, team-printed, team-whole}
use Rattle.team_forms.proofs.team.team.Goals as goal

-- ---- all is printed

pub returns-in-Ok-perform-clause-due : goal.returns-in-Ok-perform-clause-due
returns-in-Ok-perform-clause-due g c = λ reading untouched.
    let loaded = c.in-Ok.ensures.ok in
    let done = c.in-Ok-perform.ensures in
    let printed = team-printed c.put_all.result.closed loaded done.work done.total
    c.put_all.ensures.history in
    all-put _ (λ failed. failed) (record {
      answer = team-answered loaded printed;
      caused = goes-on refl (λ is. absurd (cc));
      input = untouched;
      files = tt;
    }) c.put_all.ensures.puts

pub returns-in-Ok-perform-clause-complete : goal.returns-in-Ok-perform-clause-complete
returns-in-Ok-perform-clause-complete g c = λ reading same.
    let loaded = c.in-Ok.ensures.ok in
    let done = c.in-Ok-perform.ensures in
    let printed = team-printed c.put_all.result.closed loaded done.work done.total
    c.put_all.ensures.history in
    all-put _ (λ failed. omega (arith, failed, same))
    (λ team fit unfailed. team-whole fit loaded printed) c.put_all.ensures.puts

-- ---- there is no memory for them

pub returns-in-Ok-clause-due : goal.returns-in-Ok-clause-due
returns-in-Ok-clause-due g c = λ reading untouched.
    ends-behind [] _ (λ failed. failed) (appends-none (g.K.Sink.written c.args.out.now)) (record {
      answer = WantingThen refl refl;
      caused = goes-on refl (λ is. absurd (cc));
      input = untouched;
      files = tt;
    }) c.fail.ensures.puts

pub returns-in-Ok-clause-complete : goal.returns-in-Ok-clause-complete
returns-in-Ok-clause-complete g c = λ reading same.
    ends-behind [] _ (λ failed. omega (arith, failed, same))
    (appends-none (g.K.Sink.written c.args.out.now))
    (λ team fit unfailed. NoneOfThem refl refl) c.fail.ensures.puts

-- ---- the team is refused

pub returns-clause-due : goal.returns-clause-due
returns-clause-due g c = λ reading untouched.
    let fails = c.in-Err.ensures in
    ends-behind [] _ (λ failed. failed) (appends-none (g.K.Sink.written c.args.out.now)) (record {
      answer = team-not-answered fails.err;
      caused = team-caused fails.err (λ is. fails.failed (ap Err is));
      input = untouched;
      files = tt;
    }) c.fail-in-Err.ensures.puts

pub returns-clause-complete : goal.returns-clause-complete
returns-clause-complete g c = λ reading same.
    let fails = c.in-Err.ensures in
    ends-behind [] _ (λ failed. omega (arith, failed, same))
    (appends-none (g.K.Sink.written c.args.out.now))
    (λ team fit unfailed.
    team-not-whole fit fails.err (λ is. fails.failed (ap Err is)) unfailed)
    c.fail-in-Err.ensures.puts
