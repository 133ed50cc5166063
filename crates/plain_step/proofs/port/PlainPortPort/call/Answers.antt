use Rattle.std.proofs.Common.{rules, ◌≡◌, ℕ, ◌<◌, ◌^◌, ◌∙◌, ap, subst, length, Result, Ok}
use Rattle.bbs_model.specs.Calls.{Ends}
use Rattle.bbs_model.specs.Replay.{replay_log}
use Rattle.bbs_model.specs.Step.{verdict_of}
use Rattle.bbs_model.specs.declared.reply.CallFault.{CallFault}
use Rattle.bbs_model.specs.declared.reply.Reply.{Reply}
use Rattle.bbs_model.specs.declared.reply.Reply.TheVariants as reply
use Rattle.bbs_model.specs.declared.rows.Rows.{Rows}
use Rattle.bbs_model.specs.declared.verdict.Verdict.{Verdict}
use Rattle.bbs_model.specs.declared.verdict.Verdict.TheVariants as verdict
use Rattle.bbs_model.proofs.Public.{called_alone}
use Rattle.plain_step.specs.Plain.{PlainBoard, plain_seen_of}
use Rattle.plain_step.proofs.Plains.{own_nothing}
use Rattle.plain_step.proofs.port.PlainPortPort.call.Goals as goal

pub returns-in-Ok-clause-called : goal.returns-in-Ok-clause-called
returns-in-Ok-clause-called c =
    let p = c.args.self.now in
    let rows : c.self.inside.rows ≡ replay_log p.base p.log =
    c.self.invariant.replayed ∙ ap (λ (q : PlainBoard). replay_log q.base q.log) c.self.view_is in
    let legal : verdict.Ok ≡ verdict_of (replay_log p.base p.log) c.args.command =
    c.in-Ok.ensures ∙ ap (λ (r : Rows). verdict_of r c.args.command) rows in
    called_alone p.number (plain_seen_of p) c.args.command c.transition.result (plain_seen_of c.transition.new.self)
    (subst (λ (v : Verdict). Ends v (length p.log) (replay_log p.base p.log).next c.transition.result) legal
    c.transition.ensures.ends)
    (ap plain_seen_of c.transition.ensures.done)
    c.transition.ensures.few

pub returns-in-Same-clause-called : goal.returns-in-Same-clause-called
returns-in-Same-clause-called c =
    let p = c.args.self.now in
    let rows : c.self.inside.rows ≡ replay_log p.base p.log =
    c.self.invariant.replayed ∙ ap (λ (q : PlainBoard). replay_log q.base q.log) c.self.view_is in
    let place : c.len-place.result ≡ length p.log = search rules in
    let is : verdict.Same ≡ verdict_of (replay_log p.base p.log) c.args.command =
    c.in-Same.ensures ∙ ap (λ (r : Rows). verdict_of r c.args.command) rows in
    let end : Result Reply CallFault = Ok (reply.Same c.len-place.result) in
    called_alone p.number (plain_seen_of p) c.args.command end (plain_seen_of p)
    (subst (λ (v : Verdict). Ends v (length p.log) (replay_log p.base p.log).next end) is
    (ap (λ (n : ℕ). Ok (reply.Same n)) place))
    (own_nothing (plain_seen_of p))
    (subst (λ n. n < 2 ^ 64) place c.len-place.type_inv)

pub returns-in-Refused-clause-called : goal.returns-in-Refused-clause-called
returns-in-Refused-clause-called c =
    let p = c.args.self.now in
    let rows : c.self.inside.rows ≡ replay_log p.base p.log =
    c.self.invariant.replayed ∙ ap (λ (q : PlainBoard). replay_log q.base q.log) c.self.view_is in
    let place : c.len-place.result ≡ length p.log = search rules in
    let is : verdict.Refused c.in-Refused.why ≡ verdict_of (replay_log p.base p.log) c.args.command =
    c.in-Refused.ensures ∙ ap (λ (r : Rows). verdict_of r c.args.command) rows in
    let end : Result Reply CallFault = Ok (reply.Refused c.in-Refused.why c.len-place.result) in
    called_alone p.number (plain_seen_of p) c.args.command end (plain_seen_of p)
    (subst (λ (v : Verdict). Ends v (length p.log) (replay_log p.base p.log).next end) is
    (ap (λ (n : ℕ). Ok (reply.Refused c.in-Refused.why n)) place))
    (own_nothing (plain_seen_of p))
    (subst (λ n. n < 2 ^ 64) place c.len-place.type_inv)
