-- The texts that are one character longer.
use Rattle.std.proofs.Common.{◌≡◌, ◌∙◌, sym, ap, ◌+◌, ◌-◌, ◌<◌, ◌≤◌, ℕ, List, length, take, drop}
use Rattle.std.proofs.Common.{take_all, length-drop, eqb-true, Result, Ok, Err, arith}
use Rattle.std.specs.Result.{OnOk}
use Rattle.text_order.specs.TextOrder.{beginning}
use Rattle.text_order.specs.TextOrderLaws.{all-begin, begin-further}
use Rattle.std.proofs.lemmas.List.{nil_from_length}
use Rattle.break_points.proofs.Texts.{Adds, adds, adds-kept, adds-sound, adds-whole, adds-all}
use Rattle.break_points.proofs.Texts.{adds-last}
use Rattle.break_points.proofs.occurrences.add_occurrences.Goals as goal

-- what comes of a call that may fail
on_ok : {E : Type 0} {A B : Type 0} (r : Result (Unit {0}) E) → OnOk r A → (A → B) → OnOk r B
on_ok (Ok done) holds so = so holds
on_ok (Err e) holds so = tt

-- the rest of the word from a place on
abbrev rest_of : List ℕ → ℕ → List ℕ
rest_of word place = take (length word - place) (drop place word)

rest-is : (word : List ℕ) (place : ℕ) → rest_of word place ≡ drop place word
rest-is word place =
    take_all (length word - place) (drop place word) (omega (arith, length-drop place word))

rest-long : (word : List ℕ) (place : ℕ) → length (rest_of word place) ≡ length word - place
rest-long word place = ap length (rest-is word place) ∙ length-drop place word

pub loop-len-init : goal.loop-len-init
loop-len-init c = record {
  alike = all-begin c.args.patterns.now (rest_of c.args.word.now c.args.place);
  kept = λ occurrence inside. inside;
  sound = λ sound. sound;
  whole = λ occurrence at below is. absurd (omega (arith, below));
}

adding-empty : (c : goal.Then-is_empty)
    → Adds c.args.patterns.now c.args.word.now c.args.place c.loop-len.len
    c.loop-len.occurrences.items c.add_each.new.occurrences.items
adding-empty c =
    adds c.args.patterns.now c.loop-len.alike.now c.ending.result.now c.args.word.now
    (rest_of c.args.word.now c.args.place) c.args.place c.loop-len.len
    c.loop-len.occurrences.items c.add_each.new.occurrences.items
    (rest-is c.args.word.now c.args.place) (omega (arith, rest-long c.args.word.now c.args.place))
    c.requires.order c.loop-len.invariant.alike c.ending.ensures c.in_ok-add_each.ensures

pub returns-then-is_empty-clause-kept : goal.returns-then-is_empty-clause-kept
returns-then-is_empty-clause-kept c = λ occurrence inside.
    adds-kept c.args.patterns.now c.args.word.now c.args.place c.loop-len.len
    c.loop-len.occurrences.items c.add_each.new.occurrences.items (adding-empty c) occurrence
    (c.loop-len.invariant.kept occurrence inside)

pub returns-then-is_empty-clause-sound : goal.returns-then-is_empty-clause-sound
returns-then-is_empty-clause-sound c = λ sound.
    adds-sound c.args.patterns.now c.args.word.now c.args.place c.loop-len.len
    c.loop-len.occurrences.items c.add_each.new.occurrences.items (adding-empty c)
    (c.loop-len.invariant.sound sound)

pub returns-then-is_empty-clause-whole : goal.returns-then-is_empty-clause-whole
returns-then-is_empty-clause-whole c =
    let patterns = c.args.patterns.now in
    let text = rest_of c.args.word.now c.args.place in
    let within : c.loop-len.len < length text = c.loop-len-test.true in
    let up_to : c.loop-len.len + 1 ≤ length text = omega (arith, within) in
    let now : c.going_on-alike.result.now ≡ beginning (take (c.loop-len.len + 1) text) patterns =
    begin-further patterns text c.loop-len.len c.requires.order within c.index-text-len.is
    c.loop-len.invariant.alike c.going_on-alike.ensures in
    adds-all patterns c.args.word.now text c.args.place c.loop-len.len c.loop-len.occurrences.items
    c.add_each.new.occurrences.items (rest-is c.args.word.now c.args.place) up_to
    (sym now ∙ nil_from_length c.going_on-alike.result.now
    (eqb-true (length c.going_on-alike.result.now) 0 (sym c.if-is_empty.ensures)))
    (adding-empty c) c.loop-len.invariant.whole

adding : (c : goal.Else-is_empty)
    → Adds c.args.patterns.now c.args.word.now c.args.place c.loop-len.len
    c.loop-len.occurrences.items c.add_each.new.occurrences.items
adding c =
    adds c.args.patterns.now c.loop-len.alike.now c.ending.result.now c.args.word.now
    (rest_of c.args.word.now c.args.place) c.args.place c.loop-len.len
    c.loop-len.occurrences.items c.add_each.new.occurrences.items
    (rest-is c.args.word.now c.args.place) (omega (arith, rest-long c.args.word.now c.args.place))
    c.requires.order c.loop-len.invariant.alike c.ending.ensures c.in_ok-add_each.ensures

pub loop-len-preserved : goal.loop-len-preserved
loop-len-preserved c =
    let patterns = c.args.patterns.now in
    let word = c.args.word.now in
    let place = c.args.place in
    let len = c.loop-len.len in
    let earlier = c.loop-len.occurrences.items in
    let later = c.add_each.new.occurrences.items in
    record {
      alike = begin-further patterns (rest_of word place) len c.requires.order c.loop-len-test.true
          c.index-text-len.is c.loop-len.invariant.alike c.going_on-alike.ensures;
      kept = λ occurrence inside. adds-kept patterns word place len earlier later (adding c)
          occurrence (c.loop-len.invariant.kept occurrence inside);
      sound = λ sound. adds-sound patterns word place len earlier later (adding c)
          (c.loop-len.invariant.sound sound);
      whole = adds-whole patterns word place len earlier later (adding c)
          c.loop-len.invariant.whole;
    }

adding-last : (c : goal.After-add_each-2)
    → OnOk c.add_each-2.result
    (Adds c.args.patterns.now c.args.word.now c.args.place
    (length (rest_of c.args.word.now c.args.place)) c.loop-len.occurrences.items
    c.add_each-2.new.occurrences.items)
adding-last c =
    let text = rest_of c.args.word.now c.args.place in
    let end : c.loop-len.len ≡ length text = omega arith in
    on_ok c.add_each-2.result c.add_each-2.ensures (λ made.
    adds c.args.patterns.now c.loop-len.alike.now c.ending-2.result.now c.args.word.now text
    c.args.place (length text) c.loop-len.occurrences.items c.add_each-2.new.occurrences.items
    (rest-is c.args.word.now c.args.place)
    (omega (arith, rest-long c.args.word.now c.args.place, c.requires.place)) c.requires.order
    (c.loop-len.invariant.alike ∙ ap (λ n. beginning (take n text) c.args.patterns.now) end)
    c.ending-2.ensures made)

pub returns-clause-kept : goal.returns-clause-kept
returns-clause-kept c =
    on_ok c.add_each-2.result (adding-last c) (λ more. λ occurrence inside.
    adds-kept c.args.patterns.now c.args.word.now c.args.place
    (length (rest_of c.args.word.now c.args.place)) c.loop-len.occurrences.items
    c.add_each-2.new.occurrences.items more occurrence
    (c.loop-len.invariant.kept occurrence inside))

pub returns-clause-sound : goal.returns-clause-sound
returns-clause-sound c =
    on_ok c.add_each-2.result (adding-last c) (λ more. λ sound.
    adds-sound c.args.patterns.now c.args.word.now c.args.place
    (length (rest_of c.args.word.now c.args.place)) c.loop-len.occurrences.items
    c.add_each-2.new.occurrences.items more (c.loop-len.invariant.sound sound))

pub returns-clause-whole : goal.returns-clause-whole
returns-clause-whole c =
    let text = rest_of c.args.word.now c.args.place in
    on_ok c.add_each-2.result (adding-last c) (λ more.
    adds-last c.args.patterns.now c.args.word.now text c.args.place c.loop-len.occurrences.items
    c.add_each-2.new.occurrences.items (rest-is c.args.word.now c.args.place) c.requires.place
    more
    (λ occurrence at below is. c.loop-len.invariant.whole occurrence at (omega (arith, below)) is))
