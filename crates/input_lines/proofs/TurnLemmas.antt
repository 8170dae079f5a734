-- What comes of a line, of a piece, and of a turn.
use Rattle.std.proofs.Common.{◌≡◌, ◌∙◌, ◌<◌, ◌≤◌, ◌==◌, ℕ, Bool, true, false, List, [], ◌∷◌, ◌++◌}
use Rattle.std.proofs.Common.{length, inl, inr, Option, Result, Ok, Err, IfErr, OnOk, refl, sym, ap}
use Rattle.std.proofs.Common.{subst, arith, append_assoc, append-nil, length-append}
use Rattle.std.specs.String.{string_bytes}
use Rattle.std.proofs.lemmas.Bool.{or_right}
use Rattle.std.proofs.lemmas.List.{take_at}
use Rattle.std.proofs.lemmas.List.Folds.{list_any-append}
use Rattle.outside.specs.lists.Laws.{each-append}
use Rattle.outside.specs.Laws.{appends-front, appends-more, appends-none, takes-front, takes-more}
use Rattle.outside.specs.Laws.{takes-none}
use Rattle.outside.specs.Sink.{Appends, AppendsFront}
use Rattle.outside.specs.Source.{IsToldBytes, Takes}
use Rattle.text_lines.specs.Lines.{line_texts}
use Rattle.input_lines.specs.Answers.{HasNoBreak}
use Rattle.input_lines.specs.Ends.{AreAnswered, AreAnsweredFirst, AreAnsweredWhole, HasLongLine}
use Rattle.input_lines.specs.Ends.{Reading}
use Rattle.input_lines.specs.Laws.{AnswerRelation}
use Rattle.input_lines.specs.Lines.{IsBounded, IsShort, before_quit, piece_text, unmarked}
use Rattle.input_lines.specs.Turns.{GoesBy, Hears, IsLineAnswered, IsCut, IsGathered, IsHeard}
use Rattle.input_lines.specs.Turns.{IsHeardAs, IsLeft, IsNotAnswered, IsNotKept, IsOver}
use Rattle.input_lines.specs.Turns.{AreBytesTaken}
use Rattle.input_lines.specs.Turns.{IsReadingUnderWay, Leading, PutLeaves, Channel, Since, Midway}
use Rattle.input_lines.specs.Turns.{Stops}
use Rattle.input_lines.specs.Turns.{WhyNot, line_heard_with, read_between, midway, start}
use Rattle.input_lines.specs.declared.reading_end.ReadingEnd.{ReadingEnd}
use Rattle.input_lines.specs.declared.reading_end.ReadingEnd.TheVariants.{Finished, Interrupted}
use Rattle.input_lines.specs.declared.reading_end.ReadingEnd.TheVariants.{TooMuch, LongLine}
use Rattle.input_lines.specs.declared.reading_end.ReadingEnd.TheVariants.{NoMemory, SinkFailed}
use Rattle.input_lines.specs.declared.listener.Listener.{Listener}
use Rattle.input_lines.proofs.LineLemmas.{HasNext, ends-line, front-longer, line-last, line-then}
use Rattle.input_lines.proofs.LineLemmas.{line-too-long, lines-behind, no-break-both, no-lines}
use Rattle.input_lines.proofs.LineLemmas.{quit-later, quit-never, raw_lines}
use Rattle.input_lines.specs.declared.limits.TheConstants.{INPUT_LIMIT, LINE_LIMIT}

-- ---- what is gathered

-- more is gathered
gathered-more : {before now : Channel} {gathered said after : List ℕ} (added : List ℕ)
    → IsGathered before now gathered said → after ≡ gathered ++ added
    → IsGathered before now after (said ++ added)
gathered-more {gathered} added is text = record {
  put = is.put;
  said_is = rw (is.said_is, text) (append_assoc is.put gathered added);
  written = is.written;
  count = is.count;
}

-- all of it is put, if there is any
pub left-put : (middle now : Channel) (gathered left : List ℕ) → (gathered ≡ [] → ⊥)
    → Appends middle.bytes now.bytes gathered → middle.faults ≤ now.faults → left ≡ []
    → PutLeaves {T = Unit {0}} middle now gathered left (Ok tt)
left-put middle now gathered left some put count empty before said SinkFailed is =
    absurd (some is.empty)
left-put middle now gathered left some put count empty before said ended is = record {
  put = said;
  said_is = rw empty (sym (append-nil said));
  written = subst (Appends before.bytes now.bytes) (sym is.said_is)
      (appends-more before.bytes middle.bytes now.bytes is.put gathered is.written put);
  count = omega (arith, is.count, count);
}

-- or a front of it
pub left-cut : (middle now : Channel) (gathered left : List ℕ) → (gathered ≡ [] → ⊥)
    → AppendsFront middle.bytes now.bytes gathered → middle.faults < now.faults → left ≡ []
    → PutLeaves {T = Unit {0}} middle now gathered left (Err SinkFailed)
left-cut middle now gathered left some put rose empty = (refl, cut)
  where
    cut : (before : Channel) (said : List ℕ) (ended : ReadingEnd)
        → IsLeft ended before middle gathered said
        → IsCut before now left said
    cut before said SinkFailed is = absurd (some is.empty)
    cut before said ended is = record {
      failed = omega (arith, is.count, rose);
      front = subst (AppendsFront before.bytes now.bytes) (sym is.said_is)
          (appends-front before.bytes middle.bytes now.bytes is.put gathered is.written put);
      empty = empty;
    }

-- where nothing is gathered, all is written
gathered-none : {before now : Channel} {gathered said : List ℕ} → gathered ≡ []
    → IsGathered before now gathered said → Appends before.bytes now.bytes said
gathered-none {before} {now} empty is =
    let all = is.said_is ∙ ap (λ g. is.put ++ g) empty ∙ append-nil is.put in
    subst (Appends before.bytes now.bytes) (sym all) is.written

-- ---- where reading ends

module _ {quits : List ℕ → Bool} {answered : AnswerRelation} {heard pending said : List ℕ} {is_first : Bool}
    (hears : IsHeard quits answered heard pending is_first said)
    {input : List ℕ} (rest : List ℕ) (parts : input ≡ hears.front ++ rest) where
  -- the lines up to here are the first of an input
  first-lines : AreAnsweredFirst quits answered input said
  first-lines = record {
    lines = line_texts hears.front;
    later = raw_lines (unmarked is_first rest);
    lines_are = ap line_texts parts ∙ lines-behind rest hears.begins;
    answers = hears.answers;
  }

  module _ (few : length heard ≤ INPUT_LIMIT) {line : List ℕ}
      (next : HasNext (hears.front ++ rest) hears.front line) where
    lines-here : line_texts input ≡ line_texts hears.front ++ line ∷ next.later
    lines-here = ap line_texts parts ∙ next.lines_are

    -- the next line is too long
    long-line : LINE_LIMIT < length line → HasLongLine quits answered input said
    long-line long = record {
      front = hears.front;
      rest = rest;
      parts = parts;
      ends = ends-line hears.begins;
      few = omega (arith, few, ap length hears.parts, length-append hears.front pending);
      answers = hears.answers;
      long = line;
      later = next.later;
      lines_are = lines-here;
      too_long = long;
    }

    -- or for some reason it is not answered
    stops-here : {before now : Channel} {gathered : List ℕ}
        → (quits line ≡ true → IsBounded quits input)
        → IsGathered before now gathered said → (ended : ReadingEnd) → WhyNot quits line ended
        → Stops quits answered before now gathered input ended
    stops-here bounded text Finished why =
        let front : before_quit quits (line_texts input) ≡ line_texts hears.front =
        ap (before_quit quits) lines-here
        ∙ quit-later quits _ (line ∷ next.later) hears.answers.going
        ∙ rw why (append-nil (line_texts hears.front)) in
        record {
          said = said;
          first = first-lines;
          ends = record { bounded = bounded why; answers = rw front hears.answers };
          left = text;
        }
    stops-here bounded text LongLine why =
        record { said = said; first = first-lines; ends = long-line why; left = text }
    stops-here bounded text NoMemory why =
        record { said = said; first = first-lines; ends = first-lines; left = text }
    stops-here bounded text ended why = absurd why

-- ---- a piece, line by line

heard-as : {S B T : Type 0} {quits : List ℕ → Bool} {Leads : Leading S B} {here there : Midway S B}
    {piece : List ℕ}
    {result : Result T ReadingEnd} → GoesBy quits Leads here there piece result
    → IsHeardAs quits Leads here there piece result
heard-as goes = record { on = goes }

module _ {S B : Type 0} {quits : List ℕ → Bool} {Leads : Leading S B} where
  -- one line more is answered
  answered-on : {here there first : S × B} {line before after said : List ℕ} {lines : List (List ℕ)}
      (is : IsLineAnswered quits Leads here there line before after)
      → AreAnswered quits (Since Leads first here) lines said
      → AreAnswered quits (Since Leads first there) (lines ++ line ∷ []) (said ++ is.added)
  answered-on {first} {line} {said} {lines} is answers = record {
    going = rw (list_any-append quits lines (line ∷ []), answers.going, is.goes_on);
    short = each-append IsShort lines (line ∷ []) answers.short (is.short, tt);
    said_so = is.leads first.0 first.1 lines said answers.said_so;
  }

  -- where a line was not answered, what was said is said up to there
  heard-same : {here there first : S × B} {line before after heard pending said : List ℕ}
      {is_first : Bool}
      {ended : ReadingEnd} → IsNotAnswered quits Leads here there line before after ended
      → IsHeard quits (Since Leads first here) heard pending is_first said
      → IsHeard quits (Since Leads first there) heard pending is_first said
  heard-same {first} {said} is hears =
      let answers = hears.answers in
      let same = is.leads first.0 first.1 (line_texts hears.front) said answers.said_so in
      record {
        front = hears.front;
        parts = hears.parts;
        begins = hears.begins;
        no_more = hears.no_more;
        answers = record {
          going = answers.going;
          short = answers.short;
          said_so = rw (append-nil, append-nil) at same;
        };
      }

  -- one piece was heard, and then another
  pub hears-then : {T : Type 0} {here middle there : Midway S B} {front rest : List ℕ}
      {result : Result T ReadingEnd}
      → IsHeardAs {T = Unit {0}} quits Leads here middle front (Ok tt)
      → IsHeardAs quits Leads middle there rest result
      → IsHeardAs quits Leads here there (front ++ rest) result
  hears-then {there} {front} {rest} {result} one two = heard-as (λ first before heard few under.
      let Heard =
      λ (h : List ℕ). Hears quits (Since Leads first there.states) before there.sink
      there.listener h result in
      subst Heard (append_assoc heard front rest)
      (two.on first before (heard ++ front)
      (omega (arith, few, length-append front rest, length-append heard front))
      (one.on first before heard (omega (arith, few, length-append front rest)) under)))

  -- a line was answered
  pub line-on : {here : Midway S B} {there : S × B} (listener : Listener) (bytes : List ℕ)
      → HasNoBreak bytes
      → IsLineAnswered quits Leads here.states there (line_heard_with here.listener bytes)
      (string_bytes here.listener.answers) (string_bytes listener.answers)
      → listener.pending.items ≡ [] → listener.is_first ≡ false
      → IsHeardAs {T = Unit {0}} quits Leads here (midway there here.sink listener)
      (bytes ++ 10 ∷ []) (Ok tt)
  line-on {here} listener bytes whole is empty later = heard-as (λ first before heard few under.
      let hears = under.hears in
      let piece : List ℕ = here.listener.pending.items ++ bytes in
      let lines = line-then hears.begins piece (no-break-both _ bytes hears.no_more whole) [] in
      record {
        said = under.said ++ is.added;
        hears = rw (empty, later) (record {
          front = hears.front ++ (piece ++ 10 ∷ []);
          parts = rw hears.parts (simp (append_assoc, append-nil));
          begins = front-longer hears.front piece;
          no_more = tt;
          answers = rw lines (answered-on is hears.answers);
        });
        gathered = gathered-more is.added under.gathered is.text;
      })

  -- it was not, and reading ends
  pub line-stops : {T : Type 0} {here : Midway S B} {there : S × B} {listener : Listener}
      {ended : ReadingEnd}
      {whole : List ℕ} (bytes behind : List ℕ) → whole ≡ bytes ++ 10 ∷ behind → HasNoBreak bytes
      → IsNotAnswered quits Leads here.states there (line_heard_with here.listener bytes)
      (string_bytes here.listener.answers) (string_bytes listener.answers) ended
      → IsHeardAs {T = T} quits Leads here (midway there here.sink listener) whole (Err ended)
  line-stops {here} {ended} {whole} bytes behind all no_more is =
      heard-as (λ first before heard few under rest.
      let hears = heard-same is under.hears in
      let pending : List ℕ = here.listener.pending.items in
      let piece : List ℕ = pending ++ bytes in
      let more : List ℕ = behind ++ rest in
      let lines =
      line-then hears.begins piece (no-break-both pending bytes hears.no_more no_more) in
      let long = ap length hears.parts ∙ length-append hears.front pending in
      let parts : (heard ++ whole) ++ rest ≡ hears.front ++ (piece ++ 10 ∷ more) =
      ap (λ w. (heard ++ w) ++ rest) all
      ∙ ap (λ h. (h ++ (bytes ++ 10 ∷ behind)) ++ rest) hears.parts ∙ simp append_assoc in
      stops-here hears (piece ++ 10 ∷ more) parts (omega (arith, few))
      (record { later = raw_lines more; lines_are = lines more }) (λ quit. inr (record {
        front = hears.front ++ (piece ++ 10 ∷ []);
        later = more;
        parts = parts ∙ simp append_assoc;
        ends = ends-line (front-longer hears.front piece);
        few = omega (arith, few, long, ap length all, length-append {A = ℕ});
        quits_there = rw (lines [], list_any-append quits (line_texts hears.front) _, quit)
            (or_right _ true refl);
      })) (rw is.text under.gathered) ended is.why)

  -- bytes that end no line are kept, or they are not
  pub rest-kept : {T : Type 0} {here : Midway S B} {listener : Listener}
      {result : Result T ReadingEnd}
      (bytes : List ℕ) → HasNoBreak bytes
      → OnOk result (listener.pending.items ≡ here.listener.pending.items ++ bytes)
      → IfErr result
      (IsNotKept (unmarked here.listener.is_first (here.listener.pending.items ++ bytes)))
      → listener.is_first ≡ here.listener.is_first → listener.answers ≡ here.listener.answers
      → IsHeardAs quits Leads here (midway here.states here.sink listener) bytes result
  rest-kept {here} {result = Ok done} bytes whole kept stopped is_first answers =
      heard-as (λ first before heard few under.
      let hears = under.hears in
      record {
        said = under.said;
        hears = rw (kept, is_first) (record {
          front = hears.front;
          parts = rw hears.parts (append_assoc hears.front here.listener.pending.items bytes);
          begins = hears.begins;
          no_more = no-break-both here.listener.pending.items bytes hears.no_more whole;
          answers = hears.answers;
        });
        gathered = rw answers under.gathered;
      })
  rest-kept {here} {result = Err LongLine} bytes whole kept stopped is_first answers =
      heard-as (λ first before heard few under rest.
      let hears = under.hears in
      let piece : List ℕ = here.listener.pending.items ++ bytes in
      let line = line-too-long piece rest hears.begins (no-break-both _ bytes hears.no_more whole)
      stopped in
      let parts : (heard ++ bytes) ++ rest ≡ hears.front ++ (piece ++ rest) =
      rw hears.parts (simp append_assoc) in
      let first = first-lines hears (piece ++ rest) parts in
      let ends = long-line hears (piece ++ rest) parts (omega (arith, few)) line.1 line.2 in
      record { said = under.said; first = first; ends = ends; left = rw answers under.gathered })
  rest-kept {here} {result = Err NoMemory} bytes whole kept stopped is_first answers =
      heard-as (λ first before heard few under rest.
      let behind : List ℕ = (here.listener.pending.items ++ bytes) ++ rest in
      let ends = first-lines under.hears behind (rw under.hears.parts (simp append_assoc)) in
      record { said = under.said; first = ends; ends = ends; left = rw answers under.gathered })
  rest-kept {result = Err ended} bytes whole kept stopped is_first answers = absurd stopped

-- what comes of the rest of a piece comes of the whole
abbrev pub GoesOn : {S B : Type 0} → (List ℕ → Bool) → Leading S B → Midway S B → Midway S B
    → List ℕ → List ℕ → Type 0
GoesOn {S} {B} quits Leads here middle piece rest =
    (there : Midway S B) (result : Result (Unit {0}) ReadingEnd)
    → IsHeardAs quits Leads middle there rest result → IsHeardAs quits Leads here there piece result

-- ---- what was heard is put

module _ {quits : List ℕ → Bool} {answered : AnswerRelation} {before middle now : Channel}
    {gathered left input : List ℕ}
    {ended : ReadingEnd} (stops : Stops quits answered before middle gathered input ended) where
  -- what is left where reading ended is put
  pub stops-put : PutLeaves {T = Unit {0}} middle now gathered left (Ok tt)
      → Stops quits answered before now left input ended
  stops-put put =
      record {
        said = stops.said;
        first = stops.first;
        ends = stops.ends;
        left = put before stops.said ended stops.left;
      }

  -- or it cannot be
  pub stops-cut : {failed : ReadingEnd}
      → PutLeaves {T = Unit {0}} middle now gathered left (Err failed)
      → Stops quits answered before now left input failed
  stops-cut put =
      let left = put.1 before stops.said ended stops.left in
      rw put.0 (record { said = stops.said; first = stops.first; ends = stops.first; left = left })

-- whatever was heard, reading may end then
may-end : {T : Type 0} {quits : List ℕ → Bool} {answered : AnswerRelation} {before now : Channel}
    (listener : Listener) (heard : List ℕ)
    (result : Result T ReadingEnd) → Hears quits answered before now listener heard result
    → (rest : List ℕ)
    → (ended : ReadingEnd) × Stops quits answered before now (string_bytes listener.answers)
    (heard ++ rest) ended
may-end listener heard (Ok done) under rest =
    let hears = under.hears in
    let parts =
    ap (λ h. h ++ rest) hears.parts
    ∙ append_assoc hears.front listener.pending.items rest in
    let ends = first-lines hears (listener.pending.items ++ rest) parts in
    (NoMemory, record { said = under.said; first = ends; ends = ends; left = under.gathered })
may-end listener heard (Err ended) stops rest = (ended, stops rest)

module _ {S B T : Type 0} {quits : List ℕ → Bool} {Leads : Leading S B} {here : Midway S B}
    {states : S × B}
    {middle now : Channel} {listener last : Listener} {piece : List ℕ} where
  -- what is gathered is put behind a piece
  pub hears-put : {result : Result T ReadingEnd}
      → IsHeardAs quits Leads here (midway states middle listener) piece result
      → PutLeaves {T = Unit {0}} middle now (string_bytes listener.answers)
      (string_bytes last.answers) (Ok tt)
      → last.pending ≡ listener.pending → last.is_first ≡ listener.is_first
      → IsHeardAs quits Leads here (midway states now last) piece result
  hears-put {result = Ok done} is put pending is_first = heard-as (λ first before heard few under.
      let so = is.on first before heard few under in
      record {
        said = so.said;
        hears = rw (pending, is_first) so.hears;
        gathered = put before so.said NoMemory so.gathered;
      })
  hears-put {result = Err ended} is put pending is_first =
      heard-as (λ first before heard few under rest.
      stops-put (is.on first before heard few under rest) put)

  -- or it cannot be, and reading ends
  pub hears-cut : {U : Type 0} {result : Result T ReadingEnd} {failed : ReadingEnd} {whole : List ℕ}
      (behind : List ℕ)
      → whole ≡ piece ++ behind → IsHeardAs quits Leads here (midway states middle listener) piece
      result
      → PutLeaves {T = Unit {0}} middle now (string_bytes listener.answers)
      (string_bytes last.answers) (Err failed)
      → IsHeardAs {T = U} quits Leads here (midway states now last) whole (Err failed)
  hears-cut {result} behind all is put = heard-as (λ first before heard few under rest.
      let so = may-end listener (heard ++ piece) result
      (is.on first before heard (omega (arith, few, ap length all, length-append piece behind))
      under) (behind ++ rest) in
      rw all (simp append_assoc (simp append_assoc at (stops-cut so.1 put))))

-- ---- the end of an input

-- nothing stands behind the last line feed
pub ends-silent : {quits : List ℕ → Bool} {answered : AnswerRelation} {before now : Channel}
    {listener : Listener} {heard : List ℕ}
    → IsReadingUnderWay quits answered before now listener heard → length heard ≤ INPUT_LIMIT
    → (length (unmarked listener.is_first listener.pending.items) == 0) ≡ true
    → Stops quits answered before now (string_bytes listener.answers) heard Finished
ends-silent {quits} {listener} {heard} under few none =
    let hears = under.hears in
    let last = rw none at (line-last hears.begins listener.pending.items hears.no_more) in
    let lines = ap line_texts hears.parts ∙ last ∙ append-nil (line_texts hears.front) in
    let all = ap (before_quit quits) lines
    ∙ quit-never quits (line_texts hears.front) hears.answers.going in
    record {
      said = under.said;
      first = first-lines hears listener.pending.items hears.parts;
      ends = record { bounded = inl few; answers = rw all hears.answers };
      left = under.gathered;
    }

module _ {S B : Type 0} {quits : List ℕ → Bool} {Leads : Leading S B} {here there first : S × B}
    {before now : Channel}
    {listener : Listener} {heard text : List ℕ}
    (under : IsReadingUnderWay quits (Since Leads first here) before now listener heard)
    (few : length heard ≤ INPUT_LIMIT)
    (some : (length (unmarked listener.is_first listener.pending.items) == 0) ≡ false) where
  -- a last line was answered
  pub ends-on : IsLineAnswered quits Leads here there
      (piece_text listener.is_first listener.pending.items)
      (string_bytes listener.answers) text
      → Stops quits (Since Leads first there) before now text heard Finished
  ends-on is =
      let hears = under.hears in
      let answers = answered-on is hears.answers in
      let last = rw some at (line-last hears.begins listener.pending.items hears.no_more) in
      let lines = ap line_texts hears.parts ∙ last in
      let all = ap (before_quit quits) lines ∙ quit-never quits _ answers.going in
      record {
        said = under.said ++ is.added;
        first = record {
          lines = _;
          later = [];
          lines_are = lines ∙ sym (append-nil _);
          answers = answers;
        };
        ends = record { bounded = inl few; answers = rw all answers };
        left = gathered-more is.added under.gathered is.text;
      }

  -- or it was not
  pub ends-stops : {ended : ReadingEnd}
      → IsNotAnswered quits Leads here there (piece_text listener.is_first listener.pending.items)
      (string_bytes listener.answers) text ended
      → Stops quits (Since Leads first there) before now text heard ended
  ends-stops {ended} is =
      let hears = heard-same is under.hears in
      let last = rw some at (line-last hears.begins listener.pending.items hears.no_more) in
      stops-here hears listener.pending.items hears.parts few
      (record { later = []; lines_are = last })
      (λ quit. inl few) (rw is.text under.gathered) ended is.why

-- ---- how reading ends

-- nothing was heard
abbrev heard-none : {quits : List ℕ → Bool} {answered : AnswerRelation} → answered [] []
    → IsHeard quits answered [] [] true []
heard-none starts = record {
  front = [];
  parts = refl;
  begins = start;
  no_more = tt;
  answers = rw no-lines (record { going = refl; short = tt; said_so = starts });
}

module _ {quits : List ℕ → Bool} {answered : AnswerRelation} (starts : answered [] []) where
  -- memory was wanting before anything was heard
  pub over-before : (told written : Option (List ℕ))
      → (said : List ℕ)
      × ((input : List ℕ) × IsToldBytes told input × AreAnsweredFirst quits answered input said)
      × Appends written written said
  over-before told written =
      let given = takes-front told told [] (takes-none told) in
      ([], (given.0, given.1, first-lines (heard-none starts) given.0 refl), appends-none written)

  -- nothing was taken yet
  pub taken-none : {before begun : Channel} {listener : Listener} → listener.pending.items ≡ []
      → listener.is_first ≡ true
      → string_bytes listener.answers ≡ []
      → AreBytesTaken quits answered before before listener begun begun 0
  taken-none {before} {begun} pending is_first none = record {
    heard = [];
    counted = refl;
    takes = takes-none begun.bytes;
    since = omega arith;
    put = none;
    under = record {
      said = [];
      hears = rw (pending, is_first) (heard-none starts);
      gathered = record {
        put = [];
        said_is = sym none;
        written = appends-none before.bytes;
        count = omega arith;
      };
    };
  }

module _ {quits : List ℕ → Bool} {answered : AnswerRelation} {before now : Channel} where
  -- it has ended so on an input that is given
  pub over-stops : (reading : Reading) {gathered input : List ℕ} {ended : ReadingEnd}
      → Stops quits answered before now gathered input ended → gathered ≡ []
      → IsToldBytes reading.before input
      → IsOver quits answered reading (before.faults < now.faults) before.bytes now.bytes ended
  over-stops reading {ended = SinkFailed} stops empty given =
      (stops.said, (_, given, stops.ends), (stops.left.failed, stops.left.front))
  over-stops reading {ended = Interrupted} stops empty given = absurd stops.ends
  over-stops reading {ended = TooMuch} stops empty given = absurd stops.ends
  over-stops reading stops empty given =
      (stops.said, (_, given, stops.ends), gathered-none empty stops.left)

  module _ {listener : Listener} {begun source : Channel} {count : ℕ}
      (taken : AreBytesTaken quits answered before now listener begun source count) where
    -- the lines that are whole in what was taken were answered
    whole-lines : AreAnsweredWhole quits answered taken.heard taken.under.said
    whole-lines =
        let hears = taken.under.hears in
        record {
          lines = line_texts hears.front;
          whole = record {
            front = hears.front;
            rest = listener.pending.items;
            parts = hears.parts;
            ends = ends-line hears.begins;
            no_more = hears.no_more;
            lines_are = refl;
          };
          answers = hears.answers;
        }

    -- the input failed
    pub over-interrupted : (later : Channel) → later.bytes ≡ source.bytes
        → source.faults < later.faults → count ≤ INPUT_LIMIT
        → IsOver quits answered (read_between begun later) (before.faults < now.faults) before.bytes
        now.bytes Interrupted
    over-interrupted later same rose few = (
      taken.under.said,
      record {
        failed = omega (arith, taken.since, rose);
        taken = taken.heard;
        takes = rw same taken.takes;
        few = omega (arith, taken.counted, few);
        answers = whole-lines;
      },
      gathered-none taken.put taken.under.gathered,
    )

    -- one byte more is too much
    pub over-too-much : (later : Channel) (more : List ℕ) → Takes source.bytes later.bytes more
        → count ≡ INPUT_LIMIT → length more ≡ 1
        → IsOver quits answered (read_between begun later) (before.faults < now.faults) before.bytes
        now.bytes TooMuch
    over-too-much later more took full one =
        let front = take_at taken.heard more INPUT_LIMIT (taken.counted ∙ full) in (
          taken.under.said,
          record {
            taken = taken.heard ++ more;
            takes = takes-more begun.bytes source.bytes later.bytes taken.heard more taken.takes
                took;
            one_more = omega (arith, taken.counted, full, one, length-append taken.heard more);
            answers = subst (λ h. AreAnsweredWhole quits answered h taken.under.said) (sym front)
                whole-lines;
          },
          gathered-none taken.put taken.under.gathered,
        )
