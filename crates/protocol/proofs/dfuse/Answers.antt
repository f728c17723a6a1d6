-- `dfuse` meets its contract: with a good address the layout decides, and pages are stored if it is accepted.
use Rattle.std.proofs.Common.{◌≡◌, Result, Ok, Err, sym, ap, ◌∙◌, rules}
use Rattle.protocol.specs.Interface.{rsplit, cut, address_of, done, dfuse_of}
use Rattle.protocol.specs.declared.Error.{Error}
use Rattle.protocol.specs.declared.Interface.{Interface}
use Rattle.protocol.proofs.Strings.{stored, kept}
use Rattle.protocol.proofs.dfuse.Goals as goal

pub returns-in_ok-layout-in-Ok : goal.returns-in_ok-layout-in-Ok
unfolding dfuse_of
returns-in_ok-layout-in-Ok c =
    let e : rsplit c.args.s.now ≡ cut c.in-Some.rest.now c.in-Some.layout.now = c.in-Some.ensures in
    let a : address_of (rsplit c.in-Some.rest.now) ≡ Ok c.in-Ok.address = sym c.in-Ok.ensures in
    rw (e, a) (stored _ c.in-Some.layout.now c.args.store.now c.try_from.new.store c.try_from.ensures _ c.in-Ok.address c.in_ok-layout-in-Ok.was)

pub returns-in_err-layout-in-Ok : goal.returns-in_err-layout-in-Ok
unfolding dfuse_of
returns-in_err-layout-in-Ok c =
    let e : rsplit c.args.s.now ≡ cut c.in-Some.rest.now c.in-Some.layout.now = c.in-Some.ensures in
    let a : address_of (rsplit c.in-Some.rest.now) ≡ Ok c.in-Ok.address = sym c.in-Ok.ensures in
    let f : c.from_residual.result ≡ Err (Error.MemoryLayout c.in_err-layout-in-Ok.field-0.0) = search rules in
    rw (e, a)
    (ap (λ (r : Result Interface Error). done r c.try_from.new.store) f
    ∙ kept _ c.in-Some.layout.now c.args.store.now c.try_from.new.store c.try_from.ensures _ c.in-Ok.address c.in_err-layout-in-Ok.was)
