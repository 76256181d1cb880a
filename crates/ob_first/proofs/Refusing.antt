-- What a text comes to, by the stages of sources.
use Rattle.std.proofs.Common.{ℕ, List}
use Rattle.std.specs.Prelude.{Ok}
use Rattle.ob_tree.specs.Programs.{ProgramTree}
use Rattle.ob_tree.specs.declared.tokens.Token.{Token}
use Rattle.ob_tree.specs.declared.faults.SourceFault.{SourceFault}
use Rattle.ob_tree.specs.declared.faults.SourceFault.TheVariants.{Lex, Syntax, Typing, Statics, Code, NoMemory}
use Rattle.ob_sources.specs.Reading.{IsLexed, IsParsed, IsRead}
use Rattle.ob_sources.specs.Stages.{MayStop, passes}
use Rattle.ob_sources.proofs.Faults.{never}
use Rattle.ob_first.specs.Sources.{MayHaveFault}

pub may_have : (text : List ℕ) (f : SourceFault) → MayStop (IsRead text) f → MayHaveFault text f
may_have text (Lex k l c) h = h
may_have text (Syntax k l c) h = h
may_have text (Typing k l c) h = never text (Typing k l c) (λ i. i) (λ ts i. i) h
may_have text Statics h = never text Statics (λ i. i) (λ ts i. i) h
may_have text Code h = never text Code (λ i. i) (λ ts i. i) h
may_have text NoMemory h = h

pub is_text : (text : List ℕ) (tokens : List Token) (p : ProgramTree) → IsLexed text (Ok tokens) → IsParsed text tokens (Ok p) → IsRead text (Ok p)
is_text text tokens p lexed parsed = passes tokens lexed parsed
