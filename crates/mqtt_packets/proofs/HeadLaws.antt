-- A first byte is read as it is spelled.
use Rattle.std.proofs.Common.{◌≡◌, ℕ, zero, suc, ◌+◌, ◌*◌, ◌/◌, ◌%◌, ◌<◌, ◌≤◌, Bool, true, false, cond, eqb, ltb, List, [], ◌∷◌, Option, Some, None, refl, sym, ap, subst, ◌∙◌, arith}
use Rattle.std.specs.Prelude.{IsTrue, ◌==◌, ◌&&◌, not, find, option_map, MatchOption}
use Rattle.std.specs.List.{AllByRecursion}
use Rattle.std.proofs.lemmas.Bool.{ltb-true, ltb-false, eqb-true}
use Rattle.std.proofs.lemmas.Option.{same_Some}
use Rattle.mqtt_fields.specs.declared.options.Qos.{Qos}
use Rattle.mqtt_fields.specs.declared.options.Qos.TheVariants as levels
use Rattle.mqtt_fields.specs.Options.{qos_number}
use Rattle.mqtt_packets.specs.declared.head.Head.{Head}
use Rattle.mqtt_packets.specs.declared.head.Head.TheVariants as heads
use Rattle.mqtt_packets.specs.declared.head.PublishFlags.{PublishFlags}
use Rattle.mqtt_packets.specs.Head.{bit, level_of, is_at_most_once, is_allowed, is_head, publish_flags, first_byte, with_qos, publish_at, plain_heads, head_at}

pub bit_is : (n : ℕ) → n < 2 → bit (n == 1) ≡ n
bit_is zero lt = refl
bit_is (suc zero) lt = refl
bit_is (suc (suc n)) lt = absurd (omega arith)

pub bit_small : (b : Bool) → bit b < 2
bit_small true = omega arith
bit_small false = omega arith

pub bit_back : (b : Bool) → (bit b == 1) ≡ b
bit_back true = refl
bit_back false = refl

qos_case : (n : ℕ) (q : Qos) (a b c : Bool) → (n == 0) ≡ a → (n == 1) ≡ b → (n == 2) ≡ c
    → cond a (Some levels.AtMostOnce) (cond b (Some levels.AtLeastOnce) (cond c (Some levels.ExactlyOnce) None)) ≡ Some q → qos_number q ≡ n
qos_case n q true b c ea eb ec e = ap qos_number (sym (same_Some levels.AtMostOnce q e)) ∙ sym (eqb-true _ _ ea)
qos_case n q false true c ea eb ec e = ap qos_number (sym (same_Some levels.AtLeastOnce q e)) ∙ sym (eqb-true _ _ eb)
qos_case n q false false true ea eb ec e = ap qos_number (sym (same_Some levels.ExactlyOnce q e)) ∙ sym (eqb-true _ _ ec)
qos_case n q false false false ea eb ec e = absurd cc

-- a Quality of Service is read as its number
pub qos_found : (n : ℕ) (q : Qos) → level_of n ≡ Some q → qos_number q ≡ n
qos_found n q e = qos_case n q (n == 0) (n == 1) (n == 2) refl refl refl e

pub qos_again : (q : Qos) → level_of (qos_number q) ≡ Some q
qos_again levels.AtMostOnce = refl
qos_again levels.AtLeastOnce = refl
qos_again levels.ExactlyOnce = refl

-- what a reading by number gives
past_two : (n : ℕ) (a b c : Bool) → (n == 0) ≡ a → (n == 1) ≡ b → (n == 2) ≡ c → 2 < n → cond a (Some levels.AtMostOnce) (cond b (Some levels.AtLeastOnce) (cond c (Some levels.ExactlyOnce) None)) ≡ None
past_two n true b c ea eb ec lt = absurd (omega (arith, eqb-true n 0 ea))
past_two n false true c ea eb ec lt = absurd (omega (arith, eqb-true n 1 eb))
past_two n false false true ea eb ec lt = absurd (omega (arith, eqb-true n 2 ec))
past_two n false false false ea eb ec lt = refl

pub qos_is : (n : ℕ) (o : Option Qos) → MatchOption o (2 < n) (λ q. qos_number q ≡ n) → o ≡ level_of n
qos_is n None h = sym (past_two n (n == 0) (n == 1) (n == 2) refl refl refl h)
qos_is n (Some q) h = sym (ap level_of (sym h) ∙ qos_again q)

pub qos_small : (q : Qos) → qos_number q < 3
qos_small levels.AtMostOnce = omega arith
qos_small levels.AtLeastOnce = omega arith
qos_small levels.ExactlyOnce = omega arith

bit_seven : (n : ℕ) (t : Bool) → n < 16 → ltb 7 n ≡ t → bit t ≡ n / 8
bit_seven n true lt e = let h : 7 < n = ltb-true 7 n e in omega arith
bit_seven n false lt e = let h : n ≤ 7 = ltb-false 7 n e in omega arith

sum_flags : (n d q r : ℕ) → n < 16 → d ≡ n / 8 → q ≡ n / 2 % 4 → r ≡ n % 2 → 8 * d + 2 * q + r ≡ n
sum_flags n d q r lt a b c = omega arith

checked : (t : Bool) (g f : PublishFlags) → cond t None (Some g) ≡ Some f → (t ≡ false) × (g ≡ f)
checked true g f e = absurd cc
checked false g f e = (refl, same_Some g f e)

allowed : (f g : PublishFlags) → (g.dup && is_at_most_once g.qos) ≡ false → g ≡ f → IsTrue (is_allowed f)
allowed f g unset e = let yes : is_allowed g ≡ true = ap not unset in subst (λ (h : PublishFlags). IsTrue (is_allowed h)) e yes

flags_case : (n : ℕ) (o : Option Qos) (f : PublishFlags) → n < 16 → level_of (n / 2 % 4) ≡ o → with_qos n o ≡ Some f → (publish_flags f ≡ n) × IsTrue (is_allowed f)
flags_case n None f lt q e = absurd cc
flags_case n (Some level) f lt q e =
    let made : PublishFlags = record { dup = ltb 7 n; qos = level; retain = n % 2 == 1 } in
    let c = checked (ltb 7 n && is_at_most_once level) made f e in
    let same : publish_flags made ≡ n = sum_flags n (bit (ltb 7 n)) (qos_number level) (bit (n % 2 == 1)) lt (bit_seven n (ltb 7 n) lt refl) (qos_found (n / 2 % 4) level q) (bit_is (n % 2) (omega arith)) in
    (ap publish_flags (sym c.1) ∙ same, allowed f made c.0 c.1)

abbrev IsOwn : ℕ → Head → Type 0
IsOwn b h = (b ≡ first_byte h) × IsTrue (is_head h)

publish_case : (b : ℕ) (o : Option PublishFlags) (h : Head) → b / 16 ≡ 3 → publish_at (b % 16) ≡ o → option_map heads.Publish o ≡ Some h → IsOwn b h
publish_case b None h three at e = absurd cc
publish_case b (Some f) h three at e =
    let s = flags_case (b % 16) (level_of (b % 16 / 2 % 4)) f (omega arith) refl at in
    let same : b ≡ 0x30 + publish_flags f = omega arith in
    subst (IsOwn b) (same_Some (heads.Publish f) h e) (same, s.1)

abbrev IsLine : ℕ × Head → Type 0
IsLine e = (e.0 ≡ first_byte e.1) × IsTrue (is_head e.1)

line_case : (b : ℕ) (e : ℕ × Head) (t : Bool) (rest : Option (ℕ × Head)) (h : Head) → (e.0 == b) ≡ t → IsLine e → (option_map (λ x. x.1) rest ≡ Some h → IsOwn b h)
    → option_map (λ x. x.1) (cond t (Some e) rest) ≡ Some h → IsOwn b h
line_case b e true rest h t line next found = subst (IsOwn b) (same_Some e.1 h found) (sym (eqb-true _ _ t) ∙ line.0, line.1)
line_case b e false rest h t line next found = next found

line_found : (b : ℕ) (lines : List (ℕ × Head)) (h : Head) → AllByRecursion IsLine lines → option_map (λ x. x.1) (find (λ e. e.0 == b) lines) ≡ Some h → IsOwn b h
line_found b [] h all e = absurd cc
line_found b (x ∷ lines) h all e = line_case b x (x.0 == b) (find (λ y. y.0 == b) lines) h refl all.0 (λ next. line_found b lines h all.1 next) e

lines_are : AllByRecursion IsLine plain_heads
lines_are = ((refl, refl), ((refl, refl), ((refl, refl), ((refl, refl), ((refl, refl), ((refl, refl), ((refl, refl), ((refl, refl), ((refl, refl), ((refl, refl), ((refl, refl), ((refl, refl), ((refl, refl), ((refl, refl), tt))))))))))))))

head_case : (b : ℕ) (t : Bool) (h : Head) → (b / 16 == 3) ≡ t → cond t (option_map heads.Publish (publish_at (b % 16))) (option_map (λ e. e.1) (find (λ e. e.0 == b) plain_heads)) ≡ Some h → IsOwn b h
head_case b true h three e = publish_case b (publish_at (b % 16)) h (eqb-true _ _ three) refl e
head_case b false h three e = line_found b plain_heads h lines_are e

-- a first byte that is read is the one that is spelled
pub head_found : (b : ℕ) (h : Head) → head_at b ≡ Some h → IsOwn b h
unfolding head_at
head_found b h e = head_case b (b / 16 == 3) h refl e

publish_again : (d : Bool) (q : Qos) (r : Bool) → IsTrue (not (d && is_at_most_once q)) → head_at (0x30 + (8 * bit d + 2 * qos_number q + bit r)) ≡ Some (heads.Publish (record { dup = d; qos = q; retain = r }))
unfolding head_at
publish_again true levels.AtMostOnce r h = absurd cc
publish_again true levels.AtLeastOnce true h = refl
publish_again true levels.AtLeastOnce false h = refl
publish_again true levels.ExactlyOnce true h = refl
publish_again true levels.ExactlyOnce false h = refl
publish_again false levels.AtMostOnce true h = refl
publish_again false levels.AtMostOnce false h = refl
publish_again false levels.AtLeastOnce true h = refl
publish_again false levels.AtLeastOnce false h = refl
publish_again false levels.ExactlyOnce true h = refl
publish_again false levels.ExactlyOnce false h = refl

-- and what is spelled is read
pub head_again : (h : Head) → IsTrue (is_head h) → head_at (first_byte h) ≡ Some h
head_again (heads.Publish f) s = publish_again f.dup f.qos f.retain s
head_again heads.Connect s = unfold head_at in refl
head_again heads.Connack s = unfold head_at in refl
head_again heads.Puback s = unfold head_at in refl
head_again heads.Pubrec s = unfold head_at in refl
head_again heads.Pubrel s = unfold head_at in refl
head_again heads.Pubcomp s = unfold head_at in refl
head_again heads.Subscribe s = unfold head_at in refl
head_again heads.Suback s = unfold head_at in refl
head_again heads.Unsubscribe s = unfold head_at in refl
head_again heads.Unsuback s = unfold head_at in refl
head_again heads.Pingreq s = unfold head_at in refl
head_again heads.Pingresp s = unfold head_at in refl
head_again heads.Disconnect s = unfold head_at in refl
head_again heads.Auth s = unfold head_at in refl
