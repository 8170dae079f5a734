-- The eyes of a desk before and behind the sessions.
use Rattle.std.specs.Prelude.{◌≡◌, ℕ, List, [], ◌∷◌, ◌++◌, map, Option, None}
use Rattle.std.specs.List.{AllZip, range_with_len}
use Rattle.std.specs.Option.{option_or}
use Rattle.mark_types.specs.spell_types.declared.Lexicon.{Lexicon}
use Rattle.board_share.specs.edit_core.Seen.{Seen}
use Rattle.board_share.specs.Eyes.{EyeSeen, fresh_eye}
use Rattle.worker_crew.specs.Crews.{HasWorked}
use Rattle.desk_console.specs.declared.stop.Stop.{Stop}
use Rattle.team_forms.specs.Sessions.{HasPerformed, SessionSeen}
use Rattle.team_forms.specs.Teamwork.{Script, session_line}
use Rattle.team_forms.specs.declared.pairs.LoadedPair.{LoadedPair}

-- so many eyes of a desk, with the numbers from one on
abbrev pub fresh_eyes : Seen → (first count : ℕ) → List EyeSeen
fresh_eyes opening first count = map (fresh_eye opening) (range_with_len first count)

-- a session that has done nothing
abbrev pub seat : {J : Type 0} → List (LoadedPair J) → Script → EyeSeen → SessionSeen J
seat pairs script eye = record {
  number = script.session;
  lines = script.lines;
  pairs = pairs;
  eye = eye;
  text = session_line script.session;
  stopped = None;
}

-- sessions that have done nothing, one for each script and eye
abbrev pub seats : {J : Type 0} → List (LoadedPair J) → List Script → List EyeSeen
    → List (SessionSeen J)
seats pairs scripts [] = []
seats pairs [] (eye ∷ eyes) = []
seats pairs (script ∷ scripts) (eye ∷ eyes) = seat pairs script eye ∷ seats pairs scripts eyes

-- why the first was stopped of those that were
abbrev pub first_stop : {J : Type 0} → List (SessionSeen J) → Option Stop
first_stop [] = None
first_stop (session ∷ sessions) = option_or session.stopped (first_stop sessions)

-- the eyes of the workers and then those of the sessions, which have performed; what is to be
-- printed of these; and why the first was stopped of those that were
pub record AreSeatsBehind {J : Type 0} (lexicon_of : J → Lexicon) (olds : List (SessionSeen J))
    (workers eyes : List EyeSeen) (texts : List (List ℕ)) (stopped : Option Stop) : Type 0 where
  pub others : List EyeSeen
  pub worked : AllZip HasWorked workers others
  pub sessions : List (SessionSeen J)
  pub performed : AllZip (HasPerformed lexicon_of) olds sessions
  pub stopped_is : stopped ≡ first_stop sessions
  pub eyes_are : eyes ≡ others ++ map (λ session. session.eye) sessions
  pub texts_are : texts ≡ map (λ session. session.text) sessions
