use Rattle.std.proofs.Common.{Result, sym, ap, subst, ◌∙◌}
use Rattle.std.specs.Prelude.{MatchResult, OnOk, IsTrue}
use Rattle.std.specs.List.{list_all}
use Rattle.fix_frame.specs.Grammar.{body_in}
use Rattle.fix_request.specs.Fields.{texts_of, has_tag}
use Rattle.fix_request.specs.ValidRequests.{IsValidSender, IsValidRefusal}
use Rattle.fix_request.specs.Inner.Requests.{checked_values}
use Rattle.fix_request.specs.declared.request.Sender.{Sender}
use Rattle.fix_request.specs.declared.request.Refusal.{Refusal}
use Rattle.fix_request.proofs.Senders.{sender_after, sender_is, sender_is_listed, sender_has_tags}
use Rattle.fix_request.proofs.read.read_sender.Goals as goal

pub returns-clause-sender : goal.returns-clause-sender
returns-clause-sender c =
    let names = c.args.product.now.names in
    (rw c.names.ensures at c.read_header.ensures) ∙ ap (sender_after names) (c.in_default.ensures ∙ ap checked_values c.frame_body.ensures) ∙ sender_is names (body_in c.args.frame.now)

pub returns-clause-given : goal.returns-clause-given
returns-clause-given c =
    let names = c.args.product.now.names in
    subst (λ (r : Result Sender Refusal). MatchResult r (IsValidSender names) (IsValidRefusal names)) (sym (returns-clause-sender c)) (sender_is_listed names (body_in c.args.frame.now))

pub returns-clause-tags : goal.returns-clause-tags
returns-clause-tags c =
    let body = body_in c.args.frame.now in
    subst (λ (r : Result Sender Refusal). OnOk r (IsTrue (list_all has_tag (texts_of body)))) (sym (returns-clause-sender c)) (sender_has_tags c.args.product.now.names body)

pub returns-in-Err-clause-sender : goal.returns-in-Err-clause-sender
returns-in-Err-clause-sender c =
    let names = c.args.product.now.names in
    rw c.refused_by_form.ensures (ap (sender_after names) (c.in-Err.ensures ∙ ap checked_values c.frame_body.ensures) ∙ sender_is names (body_in c.args.frame.now))

pub returns-in-Err-clause-given : goal.returns-in-Err-clause-given
returns-in-Err-clause-given c =
    let names = c.args.product.now.names in
    subst (λ (r : Result Sender Refusal). MatchResult r (IsValidSender names) (IsValidRefusal names)) (sym (returns-in-Err-clause-sender c)) (sender_is_listed names (body_in c.args.frame.now))
