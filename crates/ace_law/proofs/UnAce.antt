-- Un-ACE is harmless, rule by rule.
use Rattle.ace_class.specs.declared.class.Rule.TheVariants.{Timing, EmptyPlace, WrongPath, OnPath, Masked, DeadRegister, DeadData}
use Rattle.ace_class.specs.declared.class.Rule.TheVariants.{StoreRedirection, CleanData, CleanLine, UnaccessedLine, CleanTag, NoTrapCause}
use Rattle.ace_law.specs.UnAceLaw.{UnAceIsHarmless}
use Rattle.ace_law.proofs.CleanFlips.{unconfused-tag-same, unread-data-same}
use Rattle.ace_law.proofs.IgnoredFlips.{cause-same, empty-place-same}
use Rattle.ace_law.proofs.LineRules.{clean-line-same, unaccessed-same}
use Rattle.ace_law.proofs.Masked.Rule.{masked-same}
use Rattle.ace_law.proofs.PathRules.{on-path-same, wrong-path-same}
use Rattle.ace_law.proofs.RegisterRule.{register-same}
use Rattle.ace_law.proofs.StoreRules.{dead-data-same, redirection-same}
use Rattle.ace_law.proofs.TimingRule.{timing-same}

pub un-ace-is-harmless : UnAceIsHarmless
un-ace-is-harmless a table p Timing told below place holds = timing-same a table p.structure p.bit told below place holds.0 holds.1
un-ace-is-harmless a table p EmptyPlace told below place holds = empty-place-same a table p.structure p.bit told below place holds
un-ace-is-harmless a table p WrongPath told below place holds = wrong-path-same a table p.structure p.bit told below place holds.0 holds.1
un-ace-is-harmless a table p OnPath told below place holds = on-path-same a table p.structure p.bit told below place holds.0 holds.1
un-ace-is-harmless a table p Masked told below place holds = masked-same a table p.structure p.bit told below place holds.0 holds.1
un-ace-is-harmless a table p DeadRegister told below place holds = register-same a table p.structure p.bit told below place holds.0 holds.1
un-ace-is-harmless a table p DeadData told below place holds = dead-data-same a table p.structure p.bit told below place holds.0 holds.1
un-ace-is-harmless a table p StoreRedirection told below place holds =
    redirection-same a table p.structure p.bit told below place holds.0 holds.1
un-ace-is-harmless a table p CleanData told below place holds = unread-data-same a table p.structure p.bit told below place holds
un-ace-is-harmless a table p CleanLine told below place holds = clean-line-same a table p.structure p.bit told below place holds.0 holds.1
un-ace-is-harmless a table p UnaccessedLine told below place holds = unaccessed-same a table p.structure p.bit told below place holds.0 holds.1
un-ace-is-harmless a table p CleanTag told below place holds = unconfused-tag-same a table p.structure p.bit told below place holds
un-ace-is-harmless a table p NoTrapCause told below place holds = cause-same a table p.structure p.bit told below place holds
