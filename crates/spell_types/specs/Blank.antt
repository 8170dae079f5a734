-- The dictionary that has nothing in it.
use Rattle.std.specs.Prelude.{false, [], None}
use Rattle.spell_types.specs.declared.Lexicon.{Lexicon}
use Rattle.spell_types.specs.declared.flags.FlagKind.TheVariants.{Single}

-- without rules, words, or options that are set
abbrev pub blank_lexicon : Lexicon
blank_lexicon = record {
  affixes = record {
    kind = Single;
    aliases = None;
    rules = [];
    signs = record {
      need_affix = None;
      circumfix = None;
      forbidden = None;
      keep_case = None;
      warn = None;
      compound = None;
      begin = None;
      middle = None;
      last = None;
      permit = None;
      forbid = None;
      only_inside = None;
      force_upper = None;
    };
    options = record {
      full_strip = false;
      forbid_warn = false;
      more_suffixes = false;
      check_dup = false;
      check_case = false;
      check_triple = false;
      simplified = false;
      sharps = false;
      check_rep = false;
      compound_min = 1;
      word_max = None;
    };
    ignore = [];
    wordchars = [];
    iconv = [];
    reps = [];
    breaks = [];
    joints = [];
    patterns = [];
  };
  entries = [];
}
