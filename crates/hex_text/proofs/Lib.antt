mod HexLines
