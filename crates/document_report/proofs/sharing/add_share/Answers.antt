-- The report on a share is added behind those on the shares before it.
use Rattle.std.proofs.Common.{rules}
use Rattle.std.specs.Arc.{arc_value}
use Rattle.document_report.specs.Parts.{IsOfShare}
use Rattle.document_report.proofs.ShareLemmas.{one-share-more}
use Rattle.document_report.proofs.sharing.add_share.Goals as goal

pub returns-in-Some-Some : goal.returns-in-Some-Some
returns-in-Some-Some g c =
    let lexicon = g.J.Judge.lexicon (arc_value c.args.judge.now) in
    let given : IsOfShare c.args.output lexicon c.args.shares.now c.args.place
    c.in-Some-Some.report = search rules in
    one-share-more c.args.output lexicon c.args.shares.now c.args.place c.requires.inside
    c.requires.before given (search rules) (search rules) (search rules)

pub returns : goal.returns
returns g c =
    let lexicon = g.J.Judge.lexicon (arc_value c.args.judge.now) in
    let given : IsOfShare c.args.output lexicon c.args.shares.now c.args.place
    c.in_ok-report.report = search rules in
    one-share-more c.args.output lexicon c.args.shares.now c.args.place c.requires.inside
    c.requires.before given (search rules) (search rules) (search rules)
