-- What every dictionary that was read meets.
use Rattle.std.specs.Prelude.{◌<◌, ◌^◌, List, All, length, IfSome}
use Rattle.spell_types.specs.declared.Affixes.{Affixes}
use Rattle.spell_types.specs.declared.Entry.{Entry}
use Rattle.spell_types.specs.declared.Lexicon.{Lexicon}
use Rattle.spell_types.specs.declared.joints.JointPattern.{JointPattern}
use Rattle.spell_types.specs.declared.patterns.PatternStep.{PatternStep}
use Rattle.spell_types.specs.declared.rules.Rule.{Rule}
use Rattle.spell_types.specs.declared.signs.Signs.{Signs}
use Rattle.spell_types.specs.Flags.{IsOrdinary, AreOrdinary}

-- the rules may be numbered with 32 bits, no text that is looked for is empty, and neither is a
-- part of a compound
pub record AreSaneAffixes (affixes : Affixes) : Type 0 where
  pub few : length affixes.rules < 2 ^ 32
  pub conversions : All (λ row. 0 < length row.from) affixes.iconv
  pub reps : All (λ rep. 0 < length rep.from.text) affixes.reps
  pub breaks : All (λ anchored. 0 < length anchored.text) affixes.breaks
  pub compound_min : 0 < affixes.options.compound_min

-- the entries may be numbered with 32 bits, and none has an empty word
pub record AreSaneEntries (entries : List Entry) : Type 0 where
  pub few : length entries < 2 ^ 32
  pub words : All (λ entry. 0 < length entry.word) entries

-- a dictionary as the readers give it
pub record IsSane (lexicon : Lexicon) : Type 0 where
  pub affixes : AreSaneAffixes lexicon.affixes
  pub entries : AreSaneEntries lexicon.entries

-- the flag of a rule's class and the flags that the rule carries are ordinary
pub record IsOrdinaryRule (rule : Rule) : Type 0 where
  pub class : IsOrdinary rule.flag
  pub carried : AreOrdinary rule.carried

-- each flag with a meaning is ordinary, where it is given
pub record AreOrdinarySigns (signs : Signs) : Type 0 where
  pub need_affix : IfSome signs.need_affix IsOrdinary
  pub circumfix : IfSome signs.circumfix IsOrdinary
  pub forbidden : IfSome signs.forbidden IsOrdinary
  pub keep_case : IfSome signs.keep_case IsOrdinary
  pub warn : IfSome signs.warn IsOrdinary
  pub compound : IfSome signs.compound IsOrdinary
  pub begin : IfSome signs.begin IsOrdinary
  pub middle : IfSome signs.middle IsOrdinary
  pub last : IfSome signs.last IsOrdinary
  pub permit : IfSome signs.permit IsOrdinary
  pub forbid : IfSome signs.forbid IsOrdinary
  pub only_inside : IfSome signs.only_inside IsOrdinary
  pub force_upper : IfSome signs.force_upper IsOrdinary

-- the flags of two parts that may not meet are ordinary, where they are given
pub record IsOrdinaryJoint (row : JointPattern) : Type 0 where
  pub end_flag : IfSome row.end_flag IsOrdinary
  pub begin_flag : IfSome row.begin_flag IsOrdinary

-- the flags of a compound rule are ordinary
abbrev pub IsOrdinaryPattern : List PatternStep → Type 0
IsOrdinaryPattern pattern = All (λ step. IsOrdinary step.flag) pattern

-- no flag of an .aff file is the number that is left over
pub record HasOrdinaryFlags (affixes : Affixes) : Type 0 where
  pub aliases : IfSome affixes.aliases (All AreOrdinary)
  pub rules : All IsOrdinaryRule affixes.rules
  pub signs : AreOrdinarySigns affixes.signs
  pub joints : All IsOrdinaryJoint affixes.joints
  pub patterns : All IsOrdinaryPattern affixes.patterns

-- and none of a .dic file is
abbrev pub HaveOrdinaryFlags : List Entry → Type 0
HaveOrdinaryFlags entries = All (λ entry. AreOrdinary entry.flags) entries
