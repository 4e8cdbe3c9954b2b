-- Where a node finds the others, one number after another.
use Rattle.std.proofs.Common.{◌≡◌, ◌<◌, ◌≤◌, ◌+◌, ◌++◌, ◌∷◌, [], ℕ, List, Option, Some, None, length, get_or, slice_get, slice_index_or, inl, inr, refl, sym, ap, subst, ◌∙◌, arith}
use Rattle.std.proofs.Math.ListN.{get_or-append}
use Rattle.std.proofs.Math.Seq.{get_or-append_right, get_or-append_seam}
use Rattle.std.proofs.lemmas.Bool.Decides.{eqb_tells, leb_tells}
use Rattle.std.proofs.lemmas.List.{get_or_past}
use Rattle.std.proofs.lemmas.Option.{slice_get_past}
use Rattle.std.specs.declared.net.socket_addr.SocketAddr.{SocketAddr}
use Rattle.home_table.specs.declared.rows.NodeEntry.{NodeEntry}
use Rattle.node_server.specs.Peers.{ArePeers, IsPeer}

-- the address of one more number
pub one-more :
    (nodes : List NodeEntry) (id n : ℕ) (peers peers' : List (Option SocketAddr)) (peer : Option SocketAddr)
    → peers' ≡ peers ++ peer ∷ [] → length peers ≡ n → IsPeer nodes id n peer
    → ((k : ℕ) → k < n → IsPeer nodes id k (slice_index_or peers k None))
    → (k : ℕ) → k < n + 1 → IsPeer nodes id k (slice_index_or peers' k None)
one-more nodes id n peers peers' peer is counted here below k within = elim (eqb_tells k n) [
  | inl same ↦
      let at : slice_index_or peers' k None ≡ peer =
      ap (λ i. slice_index_or peers' i None) (same.1 ∙ sym counted) ∙ ap (λ l. slice_index_or l (length peers) None) is ∙ get_or-append_seam peers peer [] None in
      let P : Option SocketAddr → Type 0 = λ o. IsPeer nodes id k o in
      let Q : ℕ → Type 0 = λ i. IsPeer nodes id i peer in
      subst P (sym at) (subst Q (sym same.1) here)
  | inr apart ↦
      let inside : k < n = omega (arith, apart.1) in
      let at : slice_index_or peers' k None ≡ slice_index_or peers k None =
      ap (λ l. slice_index_or l k None) is ∙ get_or-append peers (peer ∷ []) None k (omega (arith, counted)) in
      let P : Option SocketAddr → Type 0 = λ o. IsPeer nodes id k o in
      subst P (sym at) (below k inside)
]

none-past : (nodes : List NodeEntry) (id k : ℕ) (peers : List (Option SocketAddr)) → length nodes ≤ k → length peers ≤ k → IsPeer nodes id k (slice_index_or peers k None)
none-past nodes id k peers past beyond =
    let none : slice_index_or peers k None ≡ None = get_or_past peers k None beyond in
    record {
      own = λ _. none;
      other = λ _ node there.
          let no : None ≡ Some node = sym (slice_get_past nodes k past) ∙ there in
          absurd (cc);
    }

-- of all numbers
pub all-found :
    (nodes : List NodeEntry) (id n : ℕ) (peers : List (Option SocketAddr)) → n ≡ length nodes → length peers ≡ n
    → ((k : ℕ) → k < n → IsPeer nodes id k (slice_index_or peers k None)) → ArePeers nodes id peers
all-found nodes id n peers all counted below = record {
  all = counted ∙ all;
  each = λ k. elim (leb_tells n k) [
    | inl past ↦ none-past nodes id k peers (omega (arith, past.1, all)) (omega (arith, past.1, counted))
    | inr inside ↦ below k (omega (arith, inside.1))
  ];
}
