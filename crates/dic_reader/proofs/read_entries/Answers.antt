-- A line keeps the entries read, or has the first fault.
use Rattle.std.proofs.Common.{rules, ◌≡◌, ◌≢◌, List, ◌∙◌, ◌∷◌, [], ◌++◌, sym, subst, Result, Ok}
use Rattle.std.proofs.Common.{Err, length}
use Rattle.std.proofs.Common.{arith, ℕ, ◌<◌, ◌≤◌, ◌==◌, true, Bool, length-append, All}
use Rattle.std.specs.Result.{IsErrAnd}
use Rattle.std.proofs.lemmas.Bool.Decides.{nat_tests}
use Rattle.std.proofs.lemmas.List.Elements.{All-push}
use Rattle.spell_types.specs.declared.Entry.{Entry}
use Rattle.spell_types.specs.Flags.{AreOrdinary}
use Rattle.spell_types.specs.Sanity.{HaveOrdinaryFlags}
use Rattle.dic_reader.specs.declared.faults.DicFault.{DicFault}
use Rattle.dic_reader.specs.Faults.{DicFaultAtLine, AreEntriesRead, IsTold}
use Rattle.dic_reader.specs.KnownSets.{entry_of_found}
use Rattle.dic_reader.proofs.KnownLemmas.{flags-placed, flags-ordinary}
use Rattle.dic_reader.proofs.TurnLemmas.{here-at, turn-here, all-gone, read-past, read-more}
use Rattle.dic_reader.proofs.TurnLemmas.{told-own, told-many, read-all}
use Rattle.dic_reader.proofs.read_entries.Goals as goal

-- a fault that is handed on
handed : {A : Type 0} (read : Result A DicFaultAtLine) (result : Result A DicFault) (fault : DicFault)
    → IsErrAnd result (λ given. given ≡ fault) → IsTold read fault → AreEntriesRead read result
handed read (Ok made) fault same told = absurd same
handed read (Err given) fault same told = subst (IsTold read) (sym same) told

none-left : (n : ℕ) (empty : Bool) → empty ≡ (n == 0) → empty ≡ true → n ≡ 0
none-left n empty is holds = grind (arith, nat_tests)

room-left : (entries : List Entry) (made : Entry) (limit : ℕ) → length entries ≤ limit
    → length entries ≢ limit → length (entries ++ made ∷ []) ≤ limit
room-left entries made limit few full =
    omega (arith, few, full, length-append entries (made ∷ []))

pub loop-rest-preserved-then-is_passed_over : goal.loop-rest-preserved-then-is_passed_over
loop-rest-preserved-then-is_passed_over c =
    let place = c.loop-rest.gone in
    let first = c.first_line.result.0.now in
    let behind = c.first_line.result.1.now in
    let before = c.loop-rest.invariant in
    record {
      lines = λ bytes lines are.
          let so_far = before.lines bytes lines are in
          let here = here-at bytes lines place c.args.text.now c.loop-rest.rest.now first behind are
          so_far.0 c.first_line.ensures.first in (
            here.next,
            read-past bytes lines place here.within here.is (sym c.if-is_passed_over.ensures)
                so_far.1,
          );
      few = before.few;
      words = before.words;
      known = before.known;
      ordinary = before.ordinary;
      utf8 = search rules;
      left = omega (arith, before.left, c.first_line.ensures.shorter);
    }

pub returns-in_err-found-clause-read : goal.returns-in_err-found-clause-read
returns-in_err-found-clause-read c = λ bytes lines are.
    let place = c.loop-rest.gone in
    let first = c.first_line.result.0.now in
    let behind = c.first_line.result.1.now in
    let so_far = c.loop-rest.invariant.lines bytes lines are in
    let here = here-at bytes lines place c.args.text.now c.loop-rest.rest.now first behind are
    so_far.0 c.first_line.ensures.first in
    let turn = turn-here bytes lines place c.args.text.now first behind c.entry_of.result.now are
    here (sym c.if-is_passed_over.ensures) c.entry_of.ensures in
    let fault = c.in_err-found.field-0.0 in
    handed _ c.from_residual-in_err-found.result fault c.from_residual-in_err-found.ensures.1
    (told-own fault turn so_far.1 c.in_err-found.ensures.fault)

pub returns-then-len-limit-clause-read : goal.returns-then-len-limit-clause-read
returns-then-len-limit-clause-read c = λ bytes lines are.
    let place = c.loop-rest.gone in
    let first = c.first_line.result.0.now in
    let behind = c.first_line.result.1.now in
    let so_far = c.loop-rest.invariant.lines bytes lines are in
    let here = here-at bytes lines place c.args.text.now c.loop-rest.rest.now first behind are
    so_far.0 c.first_line.ensures.first in
    let turn = turn-here bytes lines place c.args.text.now first behind c.entry_of.result.now are
    here (sym c.if-is_passed_over.ensures) c.entry_of.ensures in
    told-many (entry_of_found c.loop-rest.entries c.in_ok-found.found) turn so_far.1
    (c.in_ok-found.ensures.read c.loop-rest.entries c.loop-rest.invariant.known)
    (omega (arith, c.len.ensures, c.if-len-limit.true))

pub add-requires : goal.add-requires
add-requires c =
    flags-placed c.args.affixes.now c.loop-rest.entries _ c.in_ok-found.found.flags
    (c.in_ok-found.ensures.flags c.loop-rest.entries c.loop-rest.invariant.known)

pub loop-rest-preserved : goal.loop-rest-preserved
loop-rest-preserved c =
    let place = c.loop-rest.gone in
    let first = c.first_line.result.0.now in
    let behind = c.first_line.result.1.now in
    let before = c.loop-rest.invariant in
    let entries = c.loop-rest.entries in
    let found = c.in_ok-found.found in
    let made = entry_of_found entries found in
    let given = c.in_ok-found.ensures in
    let flags = given.flags entries before.known in
    let added : c.add.new.entries ≡ entries ++ made ∷ [] = c.in_ok-add.ensures.added in
    record {
      lines = λ bytes lines are.
          let so_far = before.lines bytes lines are in
          let here = here-at bytes lines place c.args.text.now c.loop-rest.rest.now first behind are
          so_far.0 c.first_line.ensures.first in
          let turn = turn-here bytes lines place c.args.text.now first behind
          c.entry_of.result.now are here (sym c.if-is_passed_over.ensures) c.entry_of.ensures in (
            here.next,
            read-more made c.add.new.entries turn so_far.1 (given.read entries before.known)
                given.word (λ full. c.if-len-limit.false (c.len.ensures ∙ full)) added,
          );
      few = subst (λ es. length es ≤ c.args.limit) (sym added)
          (room-left entries made c.args.limit before.few
          (λ full. c.if-len-limit.false (c.len.ensures ∙ full)));
      words = subst (All (λ (entry : Entry). 0 < length entry.word)) (sym added)
          (All-push (λ (entry : Entry). 0 < length entry.word) entries made before.words
          given.word);
      known = c.in_ok-add.ensures.known c.args.affixes.now _ before.known flags;
      ordinary = λ has. subst HaveOrdinaryFlags (sym added)
          (All-push (λ (entry : Entry). AreOrdinary entry.flags) entries made
          (before.ordinary has)
          (flags-ordinary c.args.affixes.now entries _ found.flags flags has));
      utf8 = search rules;
      left = omega (arith, before.left, c.first_line.ensures.shorter);
    }

pub returns-clause-read : goal.returns-clause-read
returns-clause-read c = λ bytes lines are.
    let so_far = c.loop-rest.invariant.lines bytes lines are in
    let none = none-left (length c.loop-rest.rest.now) c.is_empty.result c.is_empty.ensures
    c.loop-rest-test.false in
    read-all c.args.affixes.now c.args.limit bytes lines c.loop-rest.gone c.loop-rest.entries
    (all-gone bytes lines c.loop-rest.gone c.loop-rest.rest.now so_far.0 none) so_far.1
