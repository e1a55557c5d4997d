-- `Same` is an equivalence, and lists that are related element by element stay so in another order.
pub use Rattle.rasn_types.specs.Same.{items_one, each_same, each_length, each_moved, same_items, same_each, same_sym, same_trans}
