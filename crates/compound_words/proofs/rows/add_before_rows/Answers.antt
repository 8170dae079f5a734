-- One row after another is gone over.
use Rattle.std.proofs.Common.{◌∙◌, ◌-◌, ◌++◌, sym, ap, subst, length, take, drop, arith}
use Rattle.spell_types.specs.lists.Laws.{take-rest}
use Rattle.compound_words.specs.Rests.{asked_by, patterns_of, Grows, HasFirsts, IsRow, IsRowAt}
use Rattle.compound_words.proofs.AddLemmas.{grows-same}
use Rattle.compound_words.proofs.RowLemmas.{row-at, rows-one-more, rows-all, take-split}
use Rattle.compound_words.proofs.rows.add_before_rows.Goals as goal

pub loop-behind-init : goal.loop-behind-init
loop-behind-init c = record {
  grows =
      grows-same (asked_by c.args.search.now)
      (patterns_of c.args.search.now) c.args.here _ c.args.row.now;
  has = λ part next more way begins rest so one. absurd one;
}

pub loop-behind-preserved : goal.loop-behind-preserved
loop-behind-preserved c =
    let a = asked_by c.args.search.now in
    let rules = patterns_of c.args.search.now in
    let item = c.behind-item.result in
    let front = take (item.place - c.args.from) (drop c.args.from c.args.word.now) in
    rows-one-more c.patterns_match.ensures.one_by_one c.requires.within c.loop-behind-test.true c.behind-item.is c.requires.rows.right
    (subst (λ t. Grows a rules c.args.here (front ++ t) c.loop-behind.row c.add_before.new.row)
    (take-rest item.place c.args.word.now) c.in_ok-add_before.ensures.grows)
    (subst (λ before. HasFirsts a rules c.args.here (front ++ drop item.place c.args.word.now)
    (record {
      before = before;
      front = front;
      following = drop item.place c.args.word.now;
      rests = item.rests;
    })
    c.add_before.new.row) c.requires.before
    (subst (λ rests. HasFirsts a rules c.args.here (front ++ drop item.place c.args.word.now)
    (record {
      before = c.args.start.now.before.now;
      front = front;
      following = drop item.place c.args.word.now;
      rests = rests;
    }) c.add_before.new.row) c.deref.ensures
    (subst (λ t. HasFirsts a rules c.args.here (front ++ t)
    (record {
      before = c.args.start.now.before.now;
      front = front;
      following = t;
      rests = c.deref.result.now;
    }) c.add_before.new.row) (take-rest item.place c.args.word.now)
    c.in_ok-add_before.ensures.has)))
    c.loop-behind.invariant

pub returns-clause-all : goal.returns-clause-all
returns-clause-all c =
    rows-all c.patterns_match.ensures.one_by_one c.requires.within c.loop-behind-test.false
    c.requires.reached c.requires.at c.requires.start c.requires.rows c.loop-behind.invariant

pub add_before-requires-clause-row : goal.add_before-requires-clause-row
add_before-requires-clause-row c =
    let a = asked_by c.args.search.now in
    let rules = patterns_of c.args.search.now in
    let item = c.behind-item.result in
    let word = c.args.word.now in
    let from = c.args.from in
    let at : IsRowAt a rules word from item =
    subst (IsRowAt a rules word from) (sym c.behind-item.is)
    (row-at a rules word from c.args.rows.now c.loop-behind.behind-index item
    c.loop-behind-test.true c.requires.rows.right) in
    subst (λ before. IsRow a rules (before ++ take (item.place - from) (drop from word))
    (take (length word - item.place) (drop item.place word)) c.deref.result.now)
    (sym c.requires.before)
    (subst (λ rests. IsRow a rules (take from word ++ take (item.place - from) (drop from word))
    (take (length word - item.place) (drop item.place word)) rests) (sym c.deref.ensures)
    (subst (λ following. IsRow a rules
    (take from word ++ take (item.place - from) (drop from word)) following item.rests) (sym
    (take-rest item.place word))
    (subst (λ before. IsRow a rules before (drop item.place word) item.rests)
    (ap (λ n. take n word) (omega (arith, at.after))
    ∙ sym (take-split from (item.place - from) word c.requires.within)) at.is)))
