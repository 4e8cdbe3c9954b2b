use Rattle.std.proofs.Common.{◌≡◌, ◌<◌, List, length, true, drop, Some, sym, subst, arith}
use Rattle.std.specs.Str.{bytes_eq}
use Rattle.mqtt_access.specs.Named.{IsTaken, first_named}
use Rattle.mqtt_access.specs.declared.named.UserRules.{UserRules}
use Rattle.mqtt_access.proofs.Naming.{taken_at}
use Rattle.mqtt_access.proofs.named.take_named.Goals as goal

pub returns-then-eq : goal.returns-then-eq
returns-then-eq c =
    let us : List UserRules = c.loop-i.users.items in
    let v : UserRules = c.index.result.now in
    let lt : c.loop-i.i < length us = omega arith in
    let is : bytes_eq v.name c.args.name.now ≡ true = cc (c.eq.ensures, c.as_str.ensures.same, c.if-eq.true) in
    let none : first_named c.args.name.now (drop c.loop-i.i us) ≡ first_named c.args.name.now us =
    subst (λ (xs : List UserRules). first_named c.args.name.now (drop c.loop-i.i xs) ≡ first_named c.args.name.now xs) (sym c.loop-i.invariant.same) c.loop-i.invariant.none in
    subst (λ (xs : List UserRules). IsTaken c.args.name.now xs c.remove-name.new.self.items (Some c.remove-name.result.rules)) c.loop-i.invariant.same
    (taken_at c.args.name.now us c.remove-name.new.self.items c.loop-i.i c.remove-name.result v lt c.index.ensures is c.remove-name.ensures.value c.remove-name.ensures.items none)
