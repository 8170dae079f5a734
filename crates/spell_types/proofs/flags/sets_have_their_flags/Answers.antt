-- Each law is a lemma.
use Rattle.std.proofs.Common.{[]}
use Rattle.spell_types.proofs.FlagLemmas.{put_all-IsRising, rising-nil, put_all-Contains}
use Rattle.spell_types.proofs.FlagLemmas.{Contains-put_all, has-Contains, Contains-has, put-has}
use Rattle.spell_types.proofs.FlagLemmas.{put_all-has, put_all-last}
use Rattle.spell_types.proofs.flags.sets_have_their_flags.Goals as goal

pub returns-clause-rising : goal.returns-clause-rising
returns-clause-rising c = λ flags. put_all-IsRising [] flags rising-nil

pub returns-clause-members : goal.returns-clause-members
returns-clause-members c = λ flags flag. (put_all-Contains flags flag, Contains-put_all flags flag)

pub returns-clause-told : goal.returns-clause-told
returns-clause-told c = λ set flag. (has-Contains set flag, Contains-has set flag)

pub returns-clause-put : goal.returns-clause-put
returns-clause-put c = λ set flag asked. put-has flag set asked

pub returns-clause-put_all : goal.returns-clause-put_all
returns-clause-put_all c = put_all-has

pub returns-clause-put_last : goal.returns-clause-put_last
returns-clause-put_last c = put_all-last
