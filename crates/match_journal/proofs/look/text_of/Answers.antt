use Rattle.std.proofs.Common.{ap, ◌∙◌}
use Rattle.match_journal.specs.declared.version.Version.{Version}
use Rattle.match_journal.specs.declared.class.Class.TheVariants as class
use Rattle.match_journal.proofs.Found.{place_first, place_last, place_sealed, front_size, front_second}
use Rattle.match_journal.proofs.look.text_of.Goals as goal

pub returns-in-First-clause-found : goal.returns-in-First-clause-found
returns-in-First-clause-found g c = λ image read known front end.
    place_first c.args.limit image c.args.class c.in-Open.size c.header_text.result (c.in-Open.is ∙ ap (λ (v : Version). class.Open v c.in-Open.size) c.in-First.is) front c.header_text.ensures

pub returns-in-Sealed-clause-found : goal.returns-in-Sealed-clause-found
returns-in-Sealed-clause-found g c = λ image read known front end.
    place_sealed c.args.limit image c.args.class c.in-Sealed.field-0 c.in-Sealed.size c.header_text-in-Sealed.result c.in-Sealed.is front end c.header_text-in-Sealed.ensures

pub returns-in-Second-clause-front_bytes : goal.returns-in-Second-clause-front_bytes
returns-in-Second-clause-front_bytes g c = λ image read front other.
    absurd (other (front_second image c.args.class c.in-Open.size (c.in-Open.is ∙ ap (λ (v : Version). class.Open v c.in-Open.size) c.in-Second.is) front))

pub returns-in-Second-clause-few_bytes : goal.returns-in-Second-clause-few_bytes
returns-in-Second-clause-few_bytes g c = λ head image records read known front journal.
    let same = front_size c.args.limit image c.args.class c.in-Open.size head records c.requires.most (c.in-Open.is ∙ ap (λ (v : Version). class.Open v c.in-Open.size) c.in-Second.is) front journal in
    c.last_text.ensures.few_bytes head image records read known same.0 same.1 journal

pub returns-in-Second-clause-found : goal.returns-in-Second-clause-found
returns-in-Second-clause-found g c = λ image read known front end.
    place_last c.args.limit image c.args.class c.in-Open.size c.last_text.result (c.in-Open.is ∙ ap (λ (v : Version). class.Open v c.in-Open.size) c.in-Second.is) front (λ head. c.last_text.ensures.text head image read known)
